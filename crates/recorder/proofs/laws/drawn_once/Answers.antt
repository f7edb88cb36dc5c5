use Rattle.recorder.proofs.Once.{drawn_once}
use Rattle.recorder.proofs.laws.drawn_once.Goals as goal

pub returns : goal.returns
returns g c = λ steps. drawn_once g.S.ObjectSpace.meaning g.M.Machine.code steps
