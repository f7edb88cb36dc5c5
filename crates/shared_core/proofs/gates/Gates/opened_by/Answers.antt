-- The flag of one more seat is put.
use Rattle.std.proofs.Common.{rules, ◌∙◌}
use Rattle.shared_core.proofs.Told.{told_step, some_step}
use Rattle.shared_core.proofs.gates.Gates.opened_by.Goals as goal

pub loop-seat-preserved : goal.loop-seat-preserved
loop-seat-preserved c = record {
  some = some_step _ _ _ _ _ _ _ c.deref-awaited-items.ensures.value c.is_opened-is_open.ensures c.loop-seat-test.true ∙ c.loop-seat.invariant.some;
  seats = told_step _ _ _ _ _ _ _ _ c.deref-awaited-items.ensures.value c.loop-seat.invariant.seats c.is_opened-is_open.ensures c.loop-seat-test.true (search rules);
}
