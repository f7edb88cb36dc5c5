use Rattle.std.proofs.Common.{◌≡◌, take}
use Rattle.replay_session.specs.Legs.{steps_of_way}
use Rattle.replay_session.proofs.legs.steps_of_way.Given as goal

abbrev pub invariant-loop-leg : goal.invariant-loop-leg
invariant-loop-leg l = l.sum ≡ steps_of_way (take l.leg-index l.legs)
