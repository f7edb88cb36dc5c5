use Rattle.std.proofs.Common.{◌≡◌, ◌∙◌, Bool, ap}
use Rattle.std.specs.Prelude.{slice_get}
use Rattle.thread_plan.specs.Starts.{begins_at}
use Rattle.thread_plan.proofs.Numbers.{one_passes, one_fails}
use Rattle.thread_plan.proofs.Hinted.{begins_here}
use Rattle.thread_plan.proofs.starts.threads_with.Goals as goal
use Rattle.thread_plan.proofs.starts.threads_with.Goals.{then-begins+in_ok-push, else-begins}

pub loop-thread-preserved : goal.loop-thread-preserved
loop-thread-preserved c =
    let here : (b : Bool) → c.begins.result ≡ b → begins_at c.args.global (slice_get c.args.starts.now c.loop-thread.thread) ≡ b =
    λ b is. begins_here c.args.starts.now c.args.global c.loop-thread.thread c.index-starts-thread.result c.begins.result b c.loop-thread-test.true c.index-starts-thread.is c.begins.ensures is in
    elim c.if-begins.branch [
      | then-begins+in_ok-push w ↦ one_passes _ c.loop-thread.thread c.loop-thread.threads.items _ c.loop-thread.invariant (here _ w.if-begins.true) (ap (λ v. v.items) w.threads-is ∙ w.in_ok-push.ensures.items)
      | else-begins w ↦ one_fails _ c.loop-thread.thread c.loop-thread.threads.items _ c.loop-thread.invariant (here _ w.if-begins.false) (ap (λ v. v.items) w.threads-is)
    ]
