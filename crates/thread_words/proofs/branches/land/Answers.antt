use Rattle.std.proofs.Common.{refl, sym, subst, inl, inr}
use Rattle.std.proofs.Math.Facts.{Fits-of_lt}
use Rattle.thread_words.specs.Leaving.{LandsBy, LandsBehind}
use Rattle.thread_words.specs.declared.branches.Landing.{Landing}
use Rattle.thread_words.proofs.Landings.{block_fits, block_end, one_result}
use Rattle.thread_words.proofs.branches.land.Goals as goal

pub overflow_add-result : goal.overflow_add-result
overflow_add-result c = let k = c.requires in Fits-of_lt (block_fits k.0 k.1 c.args.opener c.args.kind c.args.t k.3.0 k.3.1)

pub returns-in-Block : goal.returns-in-Block
returns-in-Block c = λ m function are is k.
    let landing : Landing = record { keep = c.is_some.result; place = c.behind_end_by.result; labels = 0 } in
    let behind : LandsBehind c.args.opener c.args.t is landing = record {
      keeps = one_result c.args.t c.is_some.result c.is_some.ensures;
      behind = λ e h. c.behind_end_by.ensures m function e are (block_end m function c.args.opener c.args.kind c.args.t is e k h);
      closed = refl;
    } in
    elim c.in-Block.is [
      | inl e ↦ subst (λ y. LandsBy c.args.opener y c.args.t is landing) (sym e) behind
      | inr e ↦ subst (λ y. LandsBy c.args.opener y c.args.t is landing) (sym e) behind
    ]
