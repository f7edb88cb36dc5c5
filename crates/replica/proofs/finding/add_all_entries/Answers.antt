use Rattle.std.proofs.Common.{◌++◌, ℕ}
use Rattle.std.specs.List.{flat_map}
use Rattle.replica.specs.Log.{items_at}
use Rattle.replica.specs.Divergence.{clash_of_item, entry_clashes}
use Rattle.replica.proofs.Steps.{thread_more}
use Rattle.replica.proofs.finding.add_all_entries.Goals as goal

pub loop-thread-preserved : goal.loop-thread-preserved
loop-thread-preserved c =
    let log = c.args.log.now in
    rw c.in_ok-add_entries.ensures (thread_more (λ (t : ℕ). flat_map (clash_of_item t) (items_at log t)) c.loop-thread.found.items (c.args.found.now.items ++ entry_clashes log) c.loop-thread.thread c.loop-thread-test.true c.loop-thread.invariant)
