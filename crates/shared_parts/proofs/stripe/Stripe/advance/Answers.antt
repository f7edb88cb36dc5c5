use Rattle.std.proofs.Common.{◌≡◌, ◌∙◌, sym, ap, subst, arith}
use Rattle.shared_parts.specs.Parts.{part_values, lane_writes}
use Rattle.shared_parts.specs.Cut.{decision_at, AllSound}
use Rattle.rw_objects.specs.Space.{values_after}
use Rattle.shared_parts.specs.Calls.{memory_after_calls}
use Rattle.shared_parts.specs.Writes.{writes}
use Rattle.shared_parts.proofs.Writes.{values_with_call, writes_with_call}
use Rattle.shared_parts.proofs.stripe.Stripe.advance.Goals as goal

pub invariant_of-self : goal.invariant_of-self
invariant_of-self g c =
    let inv = c.self.invariant in
    let space = g.S.ObjectSpace.meaning in
    let cut = g.S.Striped.cut in
    let m = g.J.Opening.named.memory in
    let op = c.args.op.now in
    let values = (memory_after_calls space m c.args.before.now).values in
    let grown = c.requires.step.grown in
    let old = c.deref_mut.ensures.value in
    let fixed : g.S.Striped.part_fixed c.deref_mut.result.now ≡ m.fixed = ap g.S.Striped.part_fixed old ∙ inv.2.is_fixed in
    let held : g.S.Striped.held c.deref_mut.result.now ≡ part_values g.row.I values = ap g.S.Striped.held (old ∙ c.self.view_is) ∙ c.requires.here in
    let decided = c.requires.step.decided ∙ ap (λ f. decision_at space cut f values op) (sym fixed) in
    let sound = subst (λ f. AllSound cut f values) (sym fixed) c.requires.step.sound in
    let made = c.change_lane.ensures.held values held decided sound in
    let told = c.reached.ensures in
    let total = writes_with_call space g.row.I c.args.before.now c.args.latest.now grown.0 op grown.1 grown.2 in
    let all = ap (writes space.touches g.row.I) told in
    let count = c.lane_writes.ensures in
    let touches = ap (lane_writes g.row.I) c.requires.step.touches in
    let met = c.meet.ensures.met in (
      inv.0,
      omega (arith, c.add.ensures.first, met, c.requires.total, total, all, count, touches),
      record {
        is_lane = c.change_lane.ensures.lane;
        is_fixed = c.change_lane.ensures.fixed ∙ fixed;
        is_held = made ∙ (ap (λ f. part_values g.row.I (values_after space f values op)) fixed
            ∙ (ap (part_values g.row.I) (sym (values_with_call space m c.args.before.now c.args.latest.now grown.0 op grown.1 grown.2))
            ∙ ap (λ cs. part_values g.row.I (memory_after_calls space m cs).values) (sym told)));
      },
    )

pub returns : goal.returns
returns g c =
    let space = g.S.ObjectSpace.meaning in
    let grown = c.requires.step.grown in
    let total = writes_with_call space g.row.I c.args.before.now c.args.latest.now grown.0 c.args.op.now grown.1 grown.2 in
    let count = c.lane_writes.ensures in
    let touches = ap (lane_writes g.row.I) c.requires.step.touches in
    record { total = omega (arith, c.add.ensures.second, c.requires.total, total, count, touches) }
