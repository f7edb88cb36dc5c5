-- The entries so far are put.
use Rattle.std.proofs.Common.{◌≡◌, ◌++◌, take}
use Rattle.std.specs.List.{All, flat_map}
use Rattle.log_pieces.specs.Spelling.{entry_bytes}
use Rattle.log_pieces.specs.Widths.{FitsEntry}
use Rattle.log_pieces.proofs.writing.put_entries.Given as goal

abbrev pub invariant-loop-entry : goal.invariant-loop-entry
invariant-loop-entry l = record {
  put : l.out.items ≡ l.initial.out.items ++ flat_map entry_bytes (take l.entry-index l.entries);
  fits : All FitsEntry (take l.entry-index l.entries);
}
