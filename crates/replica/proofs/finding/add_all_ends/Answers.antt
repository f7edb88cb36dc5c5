use Rattle.std.proofs.Common.{◌++◌, ℕ}
use Rattle.replica.specs.Log.{end_at}
use Rattle.replica.specs.Divergence.{clash_of_end, end_clashes}
use Rattle.replica.proofs.Steps.{thread_more}
use Rattle.replica.proofs.finding.add_all_ends.Goals as goal

pub loop-thread-preserved : goal.loop-thread-preserved
loop-thread-preserved c =
    let log = c.args.log.now in
    rw c.in_ok-add_end.ensures (thread_more (λ (t : ℕ). clash_of_end t (end_at log t)) c.loop-thread.found.items (c.args.found.now.items ++ end_clashes log) c.loop-thread.thread c.loop-thread-test.true c.loop-thread.invariant)
