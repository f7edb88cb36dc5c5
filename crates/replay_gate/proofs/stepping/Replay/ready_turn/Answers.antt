use Rattle.event_core.specs.World.{world_of}
use Rattle.replay_gate.proofs.Readying.{ready_merely}
use Rattle.replay_gate.proofs.stepping.Replay.ready_turn.Goals as goal

pub invariant_of-self : goal.invariant_of-self
invariant_of-self g c = record {
  opening = c.args.self.now.opening;
  leads = ready_merely g.S.ObjectSpace.meaning g.M.Machine.code g.met.M.Machine.laws (g.L.ReadLog.log c.args.self.now.log) (g.met.L.ReadLog.limits c.args.self.now.log) (world_of c.args.self.now.world) c.args.thread
      g.met.S.ObjectSpace.laws (g.O.OpenWorld.opened c.args.self.now.opens) (world_of c.take_ready.new.world) _ c.take_ready.result c.args.self.now.leads c.take_ready.ensures.ready c.take_ready.ensures.unchanged;
}
