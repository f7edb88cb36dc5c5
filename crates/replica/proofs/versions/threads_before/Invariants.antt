-- The threads of the touches so far.
use Rattle.std.proofs.Common.{◌≡◌, ℕ, take}
use Rattle.replica.specs.Members.{has_thread}
use Rattle.replica.specs.Versions.{knew}
use Rattle.replica.proofs.versions.threads_before.Given as goal

abbrev pub invariant-loop-touch : goal.invariant-loop-touch
invariant-loop-touch l = (thread : ℕ) → has_thread l.threads thread ≡ knew (take l.touch-index l.touches) l.version thread
