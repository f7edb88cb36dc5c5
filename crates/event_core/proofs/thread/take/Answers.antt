use Rattle.std.proofs.Common.{◌≡◌, true, false, ◌+◌, ◌<◌, ap, rules}
use Rattle.event_core.specs.Threads.{thread_of, thread_after_reply, CanTakeReply}
use Rattle.event_core.proofs.Threads.{map_set, is_at, room_at}
use Rattle.event_core.proofs.thread.take.Goals as goal

pub take-requires-clause-next : goal.take-requires-clause-next
take-requires-clause-next g c = (is_at g.M.Machine.state (CanTakeReply g.M.Machine.code) c.args.threads.now.items c.args.at c.index_mut-thread.result.now c.requires.can c.requires.within c.index_mut-thread.ensures.value).next

pub take-requires-clause-steps : goal.take-requires-clause-steps
take-requires-clause-steps g c = (is_at g.M.Machine.state (CanTakeReply g.M.Machine.code) c.args.threads.now.items c.args.at c.index_mut-thread.result.now c.requires.can c.requires.within c.index_mut-thread.ensures.value).steps

pub overflow_add-thread : goal.overflow_add-thread
overflow_add-thread g c =
    let can : CanTakeReply g.M.Machine.code _ = is_at g.M.Machine.state (CanTakeReply g.M.Machine.code) c.args.threads.now.items c.args.at c.index_mut-thread.result.now c.requires.can c.requires.within c.index_mut-thread.ensures.value in
    let small : c.index_mut-thread.result.now.places < 1000000000 = can.places in
    search rules

pub unreachable-requires : goal.unreachable-requires
unreachable-requires g c = let h : false ≡ true = c.in-Err.ensures.room (room_at g.M.Machine.has_room c.args.threads.now.items c.args.at c.index_mut-thread.result.now c.requires.room c.requires.within c.index_mut-thread.ensures.value) in cc

pub returns : goal.returns
returns g c =
    map_set (thread_of g.M.Machine.state) (thread_after_reply g.M.Machine.code c.args.reply) c.args.threads.now.items c.args.at c.index_mut-thread.result.now _ c.requires.within c.index_mut-thread.ensures.value
    (ap (λ s. record { state = s; places = c.index_mut-thread.result.now.places + 1 }) c.in-Ok.ensures.ok)
