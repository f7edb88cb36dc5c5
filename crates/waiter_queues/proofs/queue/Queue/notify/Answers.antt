-- A notify moves threads from one list to the other.
use Rattle.waiter_queues.proofs.Keeps.{kept_notify}
use Rattle.waiter_queues.proofs.queue.Queue.notify.Goals as goal

pub invariant_of-self : goal.invariant_of-self
invariant_of-self c = rw (c.wake-woken.ensures.waiting, c.wake-woken.ensures.woken, c.as_slice.ensures.value) (kept_notify _ c.args.address c.args.count c.self.invariant)
