-- The touches so far are put.
use Rattle.std.proofs.Common.{◌≡◌, ◌+◌, ◌-◌, ◌*◌, ◌≤◌, ◌∷◌, ◌++◌, List, length}
use Rattle.std.specs.List.{flat_map}
use Rattle.rw_objects.specs.declared.touch.Found.{Found}
use Rattle.rw_objects.specs.Text.{found_text}
use Rattle.log_pieces.specs.Reading.{read_times, read_touch}
use Rattle.log_pieces.proofs.Loop.{behind}
use Rattle.replica.proofs.room.put_touches.Given as goal

abbrev pub invariant-loop : goal.invariant-loop
invariant-loop l = record {
  passed : (found : List Found) × (l.room ≡ l.fn.room ++ flat_map (λ f. 32 ∷ found_text f) found) × (behind found (read_times (l.count - l.counter) read_touch l.rest) ≡ read_times l.count read_touch l.bytes);
  short : length l.room ≤ length l.fn.room + 64 * l.counter;
}
