use Rattle.std.proofs.Common.{ℕ}
use Rattle.std.specs.List.{flat_map}
use Rattle.replica.specs.Log.{items_at}
use Rattle.replica.proofs.Steps.{thread_more}
use Rattle.replica.specs.Touched.{touches_of_item, known_touches}
use Rattle.replica.proofs.collecting.all_touches.Goals as goal

pub loop-number-preserved : goal.loop-number-preserved
loop-number-preserved c =
    let log = c.args.log.now in
    rw (c.in_ok-add_thread.ensures, c.new.ensures) (thread_more (λ (t : ℕ). flat_map (touches_of_item t) (items_at log t)) c.loop-number.found.items (known_touches log) c.loop-number.number c.loop-number-test.true c.loop-number.invariant)
