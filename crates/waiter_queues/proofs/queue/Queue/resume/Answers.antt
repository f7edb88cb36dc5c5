-- The loop filters the woken threads, which keeps the queue within its room.
use Rattle.std.proofs.Common.{◌==◌, not}
use Rattle.waiter_queues.proofs.Keeps.{filtered_all, kept_resume}
use Rattle.waiter_queues.proofs.queue.Queue.resume.Goals as goal

pub invariant_of-self : goal.invariant_of-self
invariant_of-self c =
    let all = filtered_all (λ t. not (t == c.args.thread)) c.loop-other.woken.items c.as_slice-other-items.result.now c.loop-other.other-index c.loop-other-test.false c.loop-other.invariant.kept in
    rw (all, c.as_slice-other-items.ensures.value) (kept_resume _ c.args.thread c.self.invariant)
