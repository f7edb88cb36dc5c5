-- The threads so far rest, but for the lone one.
use Rattle.std.proofs.Common.{◌≡◌, ◌≢◌, ℕ, ◌<◌, Some, slice_get}
use Rattle.replay_gate.specs.declared.known.Known.TheVariants as known
use Rattle.replay_gate.specs.declared.running.Taken.{Taken}
use Rattle.replay_gate.proofs.known.lone.Given as goal

abbrev pub invariant-loop-thread : goal.invariant-loop-thread
invariant-loop-thread l = record {
  rest : (i : ℕ) → i < l.thread → l.lone ≢ Some i → (x : Taken) × (slice_get l.all i ≡ Some (known.Rests x));
  nothing : (t : ℕ) → l.lone ≡ Some t → slice_get l.all t ≡ Some known.Nothing;
}
