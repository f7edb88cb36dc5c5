-- The items so far are changed.
use Rattle.std.proofs.Common.{◌≡◌, ℕ, ◌<◌, ◌≤◌, slice_get, length}
use Rattle.std.specs.Prelude.{option_map}
use Rattle.replay_gate.specs.Known.{known_later}
use Rattle.replay_gate.proofs.known.all_known_later.Given as goal

abbrev pub invariant-loop-at : goal.invariant-loop-at
invariant-loop-at l = record {
  before : (t : ℕ) → t < l.at → slice_get l.all t ≡ option_map known_later (slice_get l.fn.all t);
  behind : (t : ℕ) → l.at ≤ t → slice_get l.all t ≡ slice_get l.fn.all t;
  long : length l.all ≡ length l.fn.all;
}
