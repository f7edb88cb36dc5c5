-- An absent key takes the value; else what stands at the key is joined with it, or joined in part.
use Rattle.std.proofs.Common.{rules, ◌≡◌, Some, None}
use Rattle.std.proofs.lemmas.Map.Lookups.{CmpEqualImpliesEq}
use Rattle.std.proofs.lemmas.Result.{err_from_is_err_and, on_ok_weaker, on_err_weaker}
use Rattle.log_pieces.specs.Keyed.{value_at}
use Rattle.log_pieces.specs.ClaimDecides.{cmp_exact}
use Rattle.log_pieces.proofs.Entries.{joined_at, partly_at, one_untouched}
use Rattle.log_pieces.proofs.keyed.Keyed.join_one.Given.{Over}
use Rattle.log_pieces.proofs.keyed.Keyed.join_one.Goals as goal

exact : (g : Over) → CmpEqualImpliesEq g.K.Ord.cmp
exact g = cmp_exact g.K.PartialEq.eq g.K.Ord.cmp g.met.K.Same.decides g.met.K.Ord.matches_eq

pub returns-in_err-entry-clause-left : goal.returns-in_err-entry-clause-left
returns-in_err-entry-clause-left g c =
    let untouched : c.entry.follows.lender-at-none.entries ≡ c.args.self.now = search rules in
    rw ((err_from_is_err_and c.from_residual.result c.from_residual.ensures.1).1, untouched)
    (one_untouched g.met.V.Join.laws g.K.Ord.cmp (exact g) c.args.self.now (c.args.key, c.args.value))

pub returns-in-Vacant-clause-joined : goal.returns-in-Vacant-clause-joined
returns-in-Vacant-clause-joined g c key =
    let absent : value_at g.K.Ord.cmp c.args.self.now c.args.key ≡ None = search rules in
    joined_at g.met.V.Join.laws g.K.Ord.cmp (exact g) c.args.self.now c.args.key c.args.value c.args.value key _ (search rules) (rw absent (g.met.V.Join.laws.reflexive c.args.value))

pub returns-clause-joined : goal.returns-clause-joined
returns-clause-joined g c =
    let found : value_at g.K.Ord.cmp c.args.self.now c.args.key ≡ Some c.into_mut-mine.result.now = search rules in
    on_ok_weaker c.join_from.result
    (λ joined key. joined_at g.met.V.Join.laws g.K.Ord.cmp (exact g) c.args.self.now c.args.key c.args.value c.join_from.new.self key _ (search rules) (rw found joined))
    c.join_from.ensures.joined

pub returns-clause-left : goal.returns-clause-left
returns-clause-left g c =
    let found : value_at g.K.Ord.cmp c.args.self.now c.args.key ≡ Some c.into_mut-mine.result.now = search rules in
    on_err_weaker c.join_from.result
    (λ left. partly_at g.met.V.Join.laws g.K.Ord.cmp (exact g) c.args.self.now _ c.args.key c.into_mut-mine.result.now c.args.value c.join_from.new.self (λ key. search rules) found left)
    c.join_from.ensures.partly
