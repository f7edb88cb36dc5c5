-- One more touched object can be counted.
use Rattle.std.proofs.Common.{arith}
use Rattle.rw_objects.specs.declared.touch.Mode.TheVariants.{Read}
use Rattle.shared_tests.proofs.Counting.{counted_more}
use Rattle.shared_tests.proofs.checked.can_count.Goals as goal

pub loop-touch-preserved : goal.loop-touch-preserved
loop-touch-preserved c =
    counted_more c.args.versions.now c.as_slice-touch-items.result.now c.loop-touch.touch-index (record { object = 0; mode = Read }) c.loop-touch-test.true c.loop-touch.invariant
    (rw (← c.at-count.ensures) (omega arith, omega arith))
