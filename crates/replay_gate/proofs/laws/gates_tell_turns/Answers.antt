use Rattle.replay_gate.proofs.Telling as Telling
use Rattle.replay_gate.proofs.laws.gates_tell_turns.Goals as goal

pub returns : goal.returns
returns g c = Telling.gates_tell_turns g.S.ObjectSpace.meaning g.M.Machine.code
