use Rattle.std.proofs.Common.{refl, inl}
use Rattle.replay_gate.proofs.looking.make_local_rounds.Goals as goal

pub returns-clause-rounds : goal.returns-clause-rounds
returns-clause-rounds g c = inl (refl, c.loop-rounds.invariant.same)
