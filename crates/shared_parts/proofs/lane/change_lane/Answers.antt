-- One touch more of those that are left.
use Rattle.std.proofs.Common.{◌+◌, ◌*◌, List, get_or, drop, sym, ap, ◌∙◌, subst}
use Rattle.std.proofs.lemmas.List.{at_drop_all}
use Rattle.rw_objects.specs.declared.touch.Touch.{Touch}
use Rattle.rw_objects.specs.declared.touch.Mode.TheVariants.{Read}
use Rattle.rw_objects.specs.Space.{RisesFrom, mode_at, effect_at}
use Rattle.shared_parts.specs.Parts.{after_touches}
use Rattle.shared_parts.proofs.Lanes.{drop_here, mode_here, after_is, written_is}
use Rattle.shared_parts.proofs.lane.change_lane.Goals as goal

pub change_touch-requires-clause-touched : goal.change_touch-requires-clause-touched
change_touch-requires-clause-touched g c =
    let all : List Touch = c.as_slice-touch-items.result.now in
    let i = c.loop-touch.touch-index in
    let d : Touch = record { object = 0; mode = Read } in
    let at = mode_here 0 all i d (subst (RisesFrom 0) (sym c.as_slice-touch-items.ensures.items) c.requires.rising) c.loop-touch-test.true in
    ap (λ ts. mode_at ts (get_or all i d).object) (sym c.requires.touches ∙ sym c.as_slice-touch-items.ensures.items) ∙ at

pub loop-touch-preserved : goal.loop-touch-preserved
loop-touch-preserved g c =
    let all : List Touch = c.as_slice-touch-items.result.now in
    let i = c.loop-touch.touch-index in
    let change = g.S.Striped.cut.changed c.args.op.now c.args.decision.now in
    let here = drop_here all i (record { object = 0; mode = Read }) c.loop-touch-test.true in
    let inv = c.loop-touch.invariant in
    record {
      lane = c.change_touch.ensures.lane;
      fixed = c.change_touch.ensures.fixed ∙ inv.fixed;
      held = λ j. ap (after_touches change (drop (i + 1) all) (8 * j + c.args.lane)) (c.change_touch.ensures.held j)
          ∙ (sym (ap (λ ts. after_touches change ts (8 * j + c.args.lane) (g.S.Striped.held c.loop-touch.part j)) here) ∙ inv.held j);
    }

pub returns-clause-held : goal.returns-clause-held
returns-clause-held g c values is decided sound = λ k j.
    let change = g.S.Striped.cut.changed c.args.op.now c.args.decision.now in
    let o = 8 * j + c.args.lane in
    let all : List Touch = c.as_slice-touch-items.result.now in
    let done = at_drop_all (λ ts. after_touches change ts o (g.S.Striped.held c.loop-touch.part j)) all c.loop-touch.touch-index c.loop-touch-test.false in
    let all_of = sym done ∙ c.loop-touch.invariant.held j in
    let start = ap (λ h. after_touches change c.args.touches.now o (h j)) is in
    let rule = after_is change 0 c.args.touches.now o (values o) c.requires.rising in
    let law = written_is c.args.touches.now (g.S.ObjectSpace.meaning.touches c.args.op.now) o (change o (values o)) ((effect_at g.S.ObjectSpace.meaning (g.S.Striped.part_fixed c.args.part.now) values c.args.op.now).written o) (values o) c.requires.touches
    (λ w. ap (λ d. g.S.Striped.cut.changed c.args.op.now d o (values o)) decided ∙ g.met.S.Striped.laws.changed (g.S.Striped.part_fixed c.args.part.now) c.args.op.now values o c.requires.fits sound w) in
    (all_of ∙ (start ∙ (rule ∙ law))) k
