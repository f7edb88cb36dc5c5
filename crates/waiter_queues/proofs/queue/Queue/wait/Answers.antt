-- A thread below 16 that stands in no list has room.
use Rattle.std.proofs.Common.{◌≡◌, ◌∙◌, false, sym, ap, lit<}
use Rattle.block_objects.specs.Queues.{stands_in}
use Rattle.waiter_queues.proofs.Keeps.{room_of, kept_wait}
use Rattle.waiter_queues.proofs.queue.Queue.wait.Goals as goal

pub push-requires : goal.push-requires
push-requires c =
    let out : stands_in c.args.thread (record { waiting = c.self.inside.waiting.items; woken = c.self.inside.woken.items }) ≡ false = ap (stands_in c.args.thread) c.self.view_is ∙ (sym c.has.ensures ∙ c.if-not-has.true) in
    (lit< tt, room_of (record { waiting = c.self.inside.waiting.items; woken = c.self.inside.woken.items }) c.args.thread c.args.address c.self.invariant c.if-thread-lt16.true out)

pub invariant_of-self : goal.invariant_of-self
invariant_of-self c =
    let out : stands_in c.args.thread (record { waiting = c.self.inside.waiting.items; woken = c.self.inside.woken.items }) ≡ false = ap (stands_in c.args.thread) c.self.view_is ∙ (sym c.has.ensures ∙ c.if-not-has.true) in
    rw c.push.ensures.items (kept_wait (record { waiting = c.self.inside.waiting.items; woken = c.self.inside.woken.items }) c.args.thread c.args.address c.self.invariant c.if-thread-lt16.true out)
