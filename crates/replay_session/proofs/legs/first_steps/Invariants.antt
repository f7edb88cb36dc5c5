use Rattle.std.proofs.Common.{◌≡◌, ◌++◌, drop}
use Rattle.replay_session.specs.Legs.{first_steps}
use Rattle.replay_session.proofs.legs.first_steps.Given as goal

abbrev pub invariant-loop-leg : goal.invariant-loop-leg
invariant-loop-leg l = first_steps l.legs l.steps ≡ l.first.items ++ first_steps (drop l.leg-index l.legs) l.left
