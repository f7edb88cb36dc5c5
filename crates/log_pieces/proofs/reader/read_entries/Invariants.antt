use Rattle.std.proofs.Common.{◌≡◌, take, drop}
use Rattle.std.specs.List.{flat_map}
use Rattle.log_pieces.specs.Spelling.{entry_bytes}
use Rattle.log_pieces.specs.EntriesIn.{entries_in}
use Rattle.log_pieces.proofs.reader.read_entries.Given as goal

abbrev pub invariant-loop : goal.invariant-loop
invariant-loop l = record {
  entries : l.entries.items ≡ take l.counter (entries_in l.left l.bytes);
  behind : l.rest ≡ flat_map entry_bytes (drop l.counter (entries_in l.left l.bytes));
}
