use Rattle.std.proofs.Common.{subst}
use Rattle.log_pieces.specs.Pages.{AreJoined}
use Rattle.log_pieces.proofs.SameClaims.{joined_to_none}
use Rattle.log_pieces.proofs.runs_join.RunsSame.copy.Goals as goal

pub returns : goal.returns
returns g c =
    joined_to_none g.T.PartialEq.eq c.args.self.now c.join_runs.new.self c.is_ordered.ensures c.is_ordered-2.ensures
    (subst (λ old. AreJoined g.T.PartialEq.eq old c.args.self.now c.join_runs.new.self) c.new-copied.ensures c.in_ok-join_runs.ensures.joined)
