use Rattle.std.proofs.Common.{◌≡◌, rules}
use Rattle.std.proofs.lemmas.Result.{err_from_is_err_and}
use Rattle.log_pieces.proofs.Merging.{claims_start, claims_end, claims_next, claims_stop}
use Rattle.log_pieces.proofs.runs.Runs.join_runs.Goals as goal

pub loop-place-init : goal.loop-place-init
loop-place-init g c =
    let start : c.into_iter-place-iterator.result ≡ c.args.other.now = search rules in
    rw start (claims_start g.T.PartialEq.eq c.args.self.now c.args.other.now)

pub loop-place-preserved-in_ok-join_claim : goal.loop-place-preserved-in_ok-join_claim
loop-place-preserved-in_ok-join_claim g c = claims_next c.loop-place.invariant c.iter-place-items.ensures.ordered (c.in-Some.place, c.in-Some.claim) c.next.new.self c.in-Some.ensures.steps c.join_claim.new.self c.in_ok-join_claim.ensures.joined

pub loop-place-preserved : goal.loop-place-preserved
loop-place-preserved g c = claims_next c.loop-place.invariant c.iter-place-items.ensures.ordered (c.in-Some.place, c.in-Some.claim) c.next.new.self c.in-Some.ensures.steps c.join_claim.new.self c.in_ok-join_claim.ensures.joined

pub returns-in_err-join_claim-clause-left : goal.returns-in_err-join_claim-clause-left
returns-in_err-join_claim-clause-left g c =
    rw (err_from_is_err_and c.from_residual.result c.from_residual.ensures.1).1
    (claims_stop c.loop-place.invariant c.join_claim.new.self c.in_err-join_claim.ensures.left)

pub returns-clause-joined : goal.returns-clause-joined
returns-clause-joined g c = claims_end c.loop-place.invariant c.in-None.ensures.steps.0
