use Rattle.std.proofs.Common.{◌≡◌, take}
use Rattle.std.specs.List.{list_any}
use Rattle.thread_plan.specs.Hints.{has_atomic}
use Rattle.thread_plan.proofs.atomics.have_atomic.Given as goal

-- the bodies so far are looked at
abbrev pub invariant-loop-body : goal.invariant-loop-body
invariant-loop-body l = l.any ≡ list_any has_atomic (take l.body-index l.bodies)
