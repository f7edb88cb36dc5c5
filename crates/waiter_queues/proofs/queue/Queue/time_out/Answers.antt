-- The loop filters the waiters, which keeps the queue within its room.
use Rattle.std.proofs.Common.{◌==◌, ◌&&◌, not}
use Rattle.waiter_queues.proofs.Keeps.{filtered_all, kept_time_out}
use Rattle.waiter_queues.proofs.queue.Queue.time_out.Goals as goal

pub invariant_of-self : goal.invariant_of-self
invariant_of-self c =
    let all = filtered_all (λ w. not ((w.thread == c.args.thread) && (w.address == c.args.address))) c.loop-waiter.waiting.items c.as_slice-waiter-items.result.now c.loop-waiter.waiter-index c.loop-waiter-test.false c.loop-waiter.invariant.kept in
    rw (all, c.as_slice-waiter-items.ensures.value) (kept_time_out _ c.args.thread c.args.address c.self.invariant)
