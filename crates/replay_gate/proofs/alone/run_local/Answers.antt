use Rattle.std.proofs.Common.{arith}
use Rattle.event_core.specs.World.{world_of}
use Rattle.replay_gate.proofs.RunsAlone.{ran}
use Rattle.replay_gate.proofs.alone.run_local.Goals as goal

pub returns-clause-goes : goal.returns-clause-goes
returns-clause-goes g c =
    let r = ran g.S.ObjectSpace.meaning g.M.Machine.code g.met.M.Machine.laws (g.L.ReadLog.log c.args.log.now) c.args.thread c.run-made.result.0 (world_of c.args.world.now) (world_of c.run-made.new.self)
    (let a = c.requires in let b = c.run-made.ensures.few in omega (arith, a, b)) _ c.run-made.ensures.run in
    r.goes_on

pub returns-clause-leads : goal.returns-clause-leads
returns-clause-leads g c =
    let r = ran g.S.ObjectSpace.meaning g.M.Machine.code g.met.M.Machine.laws (g.L.ReadLog.log c.args.log.now) c.args.thread c.run-made.result.0 (world_of c.args.world.now) (world_of c.run-made.new.self)
    (let a = c.requires in let b = c.run-made.ensures.few in omega (arith, a, b)) _ c.run-made.ensures.run in
    r.leads
