use Rattle.event_core.specs.World.{world_of}
use Rattle.replay_session.proofs.Writers.{one_writer}
use Rattle.replay_session.proofs.session.Session.world.Goals as goal

pub returns-clause-one_writer : goal.returns-clause-one_writer
returns-clause-one_writer g c =
    let replay = c.args.self.now.replay in
    rw c.world.ensures.same
    (one_writer g.S.ObjectSpace.meaning g.M.Machine.code g.met.S.ObjectSpace.laws g.met.M.Machine.laws (g.L.ReadLog.log replay.log) (g.O.OpenWorld.opened replay.opens) (world_of replay.world) replay.opening replay.leads)
