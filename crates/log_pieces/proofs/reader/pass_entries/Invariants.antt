-- What is left to be passed spells the entries behind.
use Rattle.std.proofs.Common.{◌≡◌, drop}
use Rattle.std.specs.List.{flat_map}
use Rattle.log_pieces.specs.Spelling.{entry_bytes}
use Rattle.log_pieces.specs.EntriesIn.{entries_in}
use Rattle.log_pieces.proofs.reader.pass_entries.Given as goal

abbrev pub invariant-loop : goal.invariant-loop
invariant-loop l = l.rest ≡ flat_map entry_bytes (drop l.counter (entries_in l.left l.bytes))
