use Rattle.event_core.specs.World.{world_of}
use Rattle.replay_session.proofs.Keeping.{few_more, thread_on}
use Rattle.replay_session.proofs.putting.put_steps.Goals as goal

pub put_thread-requires-clause-few : goal.put_thread-requires-clause-few
put_thread-requires-clause-few g c =
    let replay = c.args.replay.now in
    few_more g.S.ObjectSpace.meaning g.M.Machine.code g.met.S.ObjectSpace.laws g.met.M.Machine.laws (g.L.ReadLog.log replay.log) (g.met.L.ReadLog.limits replay.log) (g.O.OpenWorld.opened replay.opens) (world_of replay.world) c.args.legs.now.items c.args.thread c.args.steps replay.world.sound c.requires.leads

pub returns-clause-leads : goal.returns-clause-leads
returns-clause-leads g c =
    let replay = c.args.replay.now in
    thread_on g.S.ObjectSpace.meaning g.M.Machine.code g.met.S.ObjectSpace.laws g.met.M.Machine.laws (g.L.ReadLog.log replay.log) (g.O.OpenWorld.opened replay.opens) (world_of replay.world) c.args.legs.now.items c.put_thread.new.legs.items c.args.thread c.args.steps c.put_thread.ensures c.requires.leads
