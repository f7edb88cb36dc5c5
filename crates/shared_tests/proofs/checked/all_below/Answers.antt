-- One more touch is below.
use Rattle.std.proofs.Common.{arith}
use Rattle.rw_objects.specs.declared.touch.Mode.TheVariants.{Read}
use Rattle.shared_tests.proofs.Counting.{below_more}
use Rattle.shared_tests.proofs.checked.all_below.Goals as goal

pub loop-touch-preserved : goal.loop-touch-preserved
loop-touch-preserved c =
    below_more c.args.count c.as_slice-touch-items.result.now c.loop-touch.touch-index (record { object = 0; mode = Read }) c.loop-touch-test.true c.loop-touch.invariant (omega arith)
