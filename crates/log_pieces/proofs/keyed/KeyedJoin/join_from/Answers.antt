-- Each entry is joined behind those so far; where a copy is refused, nothing is changed.
use Rattle.std.proofs.Common.{rules, ◌≡◌}
use Rattle.std.proofs.lemmas.Map.Lookups.{CmpEqualImpliesEq}
use Rattle.std.proofs.lemmas.Result.{err_from_is_err_and}
use Rattle.log_pieces.specs.ClaimDecides.{cmp_exact}
use Rattle.log_pieces.proofs.SoFar.{so_far_none, so_far_all, so_far_more, so_far_left, so_far_stopped}
use Rattle.log_pieces.proofs.keyed.KeyedJoin.join_from.Given.{Over}
use Rattle.log_pieces.proofs.keyed.KeyedJoin.join_from.Goals as goal

exact : (g : Over) → CmpEqualImpliesEq g.K.Ord.cmp
exact g = cmp_exact g.K.PartialEq.eq g.K.Ord.cmp g.met.K.Same.decides g.met.K.Ord.matches_eq

pub loop-key-init : goal.loop-key-init
loop-key-init g c =
    let start : c.into_iter-key-iterator.result ≡ c.args.other.now = search rules in
    rw start (so_far_none g.met.V.Join.laws (exact g) c.args.self.now c.args.other.now)

pub loop-key-preserved : goal.loop-key-preserved
loop-key-preserved g c =
    so_far_more g.met.V.Join.laws (exact g) g.met.K.Ord.total c.iter-key-items.ensures.ordered c.in-Some.ensures.steps c.loop-key.invariant c.join_one.new.self
    (rw (← c.in_ok-copy.ensures, ← c.in_ok-copy-2.ensures) c.in_ok-join_one.ensures.joined)

pub returns-in_err-copy-clause-partly : goal.returns-in_err-copy-clause-partly
returns-in_err-copy-clause-partly g c =
    rw (err_from_is_err_and c.from_residual.result c.from_residual.ensures.1).1
    (so_far_stopped g.met.V.Join.laws (exact g) g.met.K.Ord.total c.iter-key-items.ensures.ordered c.in-Some.ensures.steps c.loop-key.invariant)

pub returns-in_err-copy-2-clause-partly : goal.returns-in_err-copy-2-clause-partly
returns-in_err-copy-2-clause-partly g c =
    rw (err_from_is_err_and c.from_residual-in_err-copy-2.result c.from_residual-in_err-copy-2.ensures.1).1
    (so_far_stopped g.met.V.Join.laws (exact g) g.met.K.Ord.total c.iter-key-items.ensures.ordered c.in-Some.ensures.steps c.loop-key.invariant)

pub returns-in_err-join_one-clause-partly : goal.returns-in_err-join_one-clause-partly
returns-in_err-join_one-clause-partly g c =
    rw (err_from_is_err_and c.from_residual-in_err-join_one.result c.from_residual-in_err-join_one.ensures.1).1
    (so_far_left g.met.V.Join.laws (exact g) g.met.K.Ord.total c.iter-key-items.ensures.ordered c.in-Some.ensures.steps c.loop-key.invariant c.join_one.new.self
    (rw (← c.in_ok-copy.ensures, ← c.in_ok-copy-2.ensures) c.in_err-join_one.ensures.left))

pub returns-clause-joined : goal.returns-clause-joined
returns-clause-joined g c = so_far_all c.in-None.ensures.steps.0 c.loop-key.invariant
