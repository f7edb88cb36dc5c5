use Rattle.std.proofs.Common.{◌≡◌, ◌-◌}
use Rattle.log_pieces.specs.Reading.{read_times, read_entry}
use Rattle.log_pieces.proofs.Loop.{behind}
use Rattle.log_pieces.proofs.reading.read_entries.Given as goal

abbrev pub invariant-loop : goal.invariant-loop
invariant-loop l = behind l.entries.items (read_times (l.count - l.counter) read_entry l.rest) ≡ read_times l.count read_entry l.bytes
