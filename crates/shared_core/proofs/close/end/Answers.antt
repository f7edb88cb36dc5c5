-- The parts are those of the space to which the journal leads.
use Rattle.std.proofs.Common.{sym, ap, ◌∙◌}
use Rattle.rw_objects.specs.Counts.{count_at}
use Rattle.shared_parts.proofs.Wholes.{one_whole}
use Rattle.shared_parts.specs.Calls.{memory_after_calls}
use Rattle.shared_parts.proofs.Writes.{fixed_after}
use Rattle.shared_parts.proofs.Enters.{memory_is}
use Rattle.shared_core.proofs.close.end.Goals as goal

pub unite-requires : goal.unite-requires
unite-requires g c =
    let m = g.J.Opening.named.memory in
    let after = memory_after_calls g.S.ObjectSpace.meaning m c.args.held in
    (m.fixed, after.values, c.take_in.ensures.sound, c.in_ok-order.ensures.whole)

pub returns-clause-memory : goal.returns-clause-memory
returns-clause-memory g c =
    let space = g.S.ObjectSpace.meaning in
    let m = g.J.Opening.named.memory in
    let two = one_whole g.S.Striped.lane g.S.Striped.part_fixed g.S.Striped.held _ _ _ _ c.in_ok-order.field-0.parts c.in_ok-space.ensures c.in_ok-order.ensures.whole in
    memory_is (memory_after_calls space m c.args.held) (g.S.ObjectSpace.fixed c.in_ok-space.space) (g.S.ObjectSpace.values c.in_ok-space.space) (count_at c.in_ok-order.field-0.versions)
    (two.0 ∙ sym (fixed_after space m c.args.held))
    two.1
    c.in_ok-order.ensures.versions

pub invariant_of-result : goal.invariant_of-result
invariant_of-result g c =
    let two = one_whole g.S.Striped.lane g.S.Striped.part_fixed g.S.Striped.held _ _ _ _ c.in_ok-order.field-0.parts c.in_ok-space.ensures c.in_ok-order.ensures.whole in
    record { sized = c.in_ok-order.ensures.sized ∙ ap g.S.ObjectSpace.meaning.objects (sym two.0) }
