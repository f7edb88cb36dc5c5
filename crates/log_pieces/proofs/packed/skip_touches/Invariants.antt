-- The touches so far were passed.
use Rattle.std.proofs.Common.{◌≡◌, ◌-◌, List}
use Rattle.rw_objects.specs.declared.touch.Found.{Found}
use Rattle.log_pieces.specs.Reading.{read_times, read_touch}
use Rattle.log_pieces.proofs.Loop.{behind}
use Rattle.log_pieces.proofs.packed.skip_touches.Given as goal

abbrev pub invariant-loop : goal.invariant-loop
invariant-loop l = (found : List Found) × (behind found (read_times (l.count - l.counter) read_touch l.rest) ≡ read_times l.count read_touch l.bytes)
