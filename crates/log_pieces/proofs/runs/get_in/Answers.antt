use Rattle.std.proofs.Common.{sym}
use Rattle.log_pieces.proofs.OneClaim.{at_place}
use Rattle.log_pieces.proofs.runs.get_in.Goals as goal

pub returns : goal.returns
returns g c =
    let s = rw c.deref.ensures.value at c.spot-found.ensures in
    rw s.parts (sym (at_place g.T.PartialEq.eq s.before s.after c.args.at 128 c.spot-found.result.1 s.low s.high))
