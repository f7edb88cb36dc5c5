use Rattle.event_core.specs.World.{world_of}
use Rattle.replay_gate.proofs.Refusing.{shows_merely}
use Rattle.replay_gate.proofs.stepping.Replay.world.Goals as goal

pub returns-clause-recorded : goal.returns-clause-recorded
returns-clause-recorded g c =
    shows_merely g.S.ObjectSpace.meaning g.M.Machine.code g.met.S.ObjectSpace.laws g.met.M.Machine.laws (g.L.ReadLog.log c.args.self.now.log) (g.O.OpenWorld.opened c.args.self.now.opens)
    (world_of c.args.self.now.world) c.args.self.now.opening c.args.self.now.leads
