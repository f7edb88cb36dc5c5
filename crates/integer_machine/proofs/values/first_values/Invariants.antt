-- The types and words so far gave values.
use Rattle.std.proofs.Common.{◌≡◌, [], drop, length}
use Rattle.integer_machine.proofs.Typed.{TypedSoFar}
use Rattle.integer_machine.proofs.values.first_values.Given as goal

abbrev pub invariant-loop-t : goal.invariant-loop-t
invariant-loop-t l = record { count : length l.values.items ≡ l.t-index; so_far : TypedSoFar l.types (drop l.t-index l.types) l.words (drop l.t-index l.words) [] l.values.items }
