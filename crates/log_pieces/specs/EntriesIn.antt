-- Entries in the bytes by which pieces spell them.
use Rattle.std.specs.Prelude.{◌≡◌, ℕ, List, [], length, Option, Some, None}
use Rattle.std.specs.List.{All, flat_map}
use Rattle.rw_objects.specs.declared.entry.Entry.{Entry}
use Rattle.log_pieces.specs.Reading.{read_times, read_entry}
use Rattle.log_pieces.specs.Spelling.{entry_bytes}
use Rattle.log_pieces.specs.Widths.{FitsEntry}

abbrev pub those_read : Option (List Entry × List ℕ) → List Entry
those_read None = []
those_read (Some read) = read.0

-- so many entries, read from the front of bytes
abbrev pub entries_in : ℕ → List ℕ → List Entry
entries_in count bytes = those_read (read_times count read_entry bytes)

-- the bytes spell so many entries, and nothing else
pub record ArePacked (count : ℕ) (bytes : List ℕ) : Type 0 where
  pub spelled : bytes ≡ flat_map entry_bytes (entries_in count bytes)
  pub many : length (entries_in count bytes) ≡ count
  pub fits : All FitsEntry (entries_in count bytes)

-- entries, and for how many bytes more there is room
pub record WriterAt : Type 0 where
  pub entries : List Entry
  pub room : ℕ
