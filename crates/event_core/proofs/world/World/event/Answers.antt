use Rattle.std.proofs.Common.{ap, ◌∙◌}
use Rattle.event_core.specs.Threads.{change_at, thread_after_reply}
use Rattle.event_core.specs.World.{world_of}
use Rattle.event_core.proofs.Threads.{seen_within}
use Rattle.event_core.proofs.SoundSteps.{event_kept, event_of, rooms_kept}
use Rattle.event_core.proofs.world.World.event.Goals as goal

pub act-reply-requires-clause-room : goal.act-reply-requires-clause-room
act-reply-requires-clause-room g c = λ o is. rooms_kept g.S.ObjectSpace.meaning g.M.Machine.code (world_of c.args.self.now).threads (world_of c.args.self.now).memory o c.args.self.now.sound

pub take-requires-clause-within : goal.take-requires-clause-within
take-requires-clause-within g c =
    let w = world_of c.args.self.now in
    let e = event_of g.S.ObjectSpace.meaning g.M.Machine.code g.met.S.ObjectSpace.laws g.met.M.Machine.laws w c.args.pick c.args.op c.requires c.args.self.now.sound in
    seen_within g.M.Machine.state c.args.self.now.threads.items c.room.new.threads.items c.args.pick.thread e.0 e.1 c.in_ok-room.ensures.same

pub invariant_of-self-2 : goal.invariant_of-self-2
invariant_of-self-2 g c =
    let w = world_of c.args.self.now in
    let threads = c.take.ensures ∙ ap (λ ts. change_at ts c.args.pick.thread (thread_after_reply g.M.Machine.code c.act-reply.result.0)) c.in_ok-room.ensures.same in
    record {
      sound = rw (threads, c.act-reply.ensures.memory) (event_kept g.S.ObjectSpace.meaning g.M.Machine.code g.met.S.ObjectSpace.laws g.met.M.Machine.laws w c.args.pick c.args.op c.act-reply.result.0 c.requires c.args.self.now.sound);
    }
