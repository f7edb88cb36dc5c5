use Rattle.event_core.specs.World.{world_of}
use Rattle.replay_gate.proofs.Refusing.{leads_merely}
use Rattle.replay_gate.proofs.stepping.Replay.local_steps.Goals as goal

pub invariant_of-self : goal.invariant_of-self
invariant_of-self g c = record {
  opening = c.args.self.now.opening;
  leads = leads_merely g.S.ObjectSpace.meaning g.M.Machine.code g.met.S.ObjectSpace.laws g.met.M.Machine.laws (g.L.ReadLog.log c.args.self.now.log) (g.O.OpenWorld.opened c.args.self.now.opens) (world_of c.args.self.now.world)
      (world_of c.run_local.new.world) c.args.self.now.leads c.run_local.ensures.leads;
}
