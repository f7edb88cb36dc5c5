use Rattle.std.proofs.Common.{[], sym, subst}
use Rattle.event_core.specs.World.{world_of}
use Rattle.replay_laws.specs.Finishing.{OrderedEnds}
use Rattle.replay_gate.proofs.Ends.{right_end, right_fault, starved_fault}
use Rattle.replay_gate.proofs.finishing.finish.Goals as goal

pub returns-clause-ended : goal.returns-clause-ended
returns-clause-ended g c =
    λ w opening leads.
    let log = g.L.ReadLog.log c.args.log.now in
    right_end g.S.ObjectSpace.meaning g.M.Machine.code g.met.S.ObjectSpace.laws g.met.M.Machine.laws log (g.met.L.ReadLog.limits c.args.log.now) w (world_of c.args.world) leads opening c.in-Ok-end.ended
    (subst (OrderedEnds g.S.ObjectSpace.meaning g.M.Machine.code log (world_of c.args.world) []) (sym c.in-Ok-end.ensures) c.in-Ok.ensures.ended)

pub returns-in-Err-clause-refused : goal.returns-in-Err-clause-refused
returns-in-Err-clause-refused g c =
    λ w leads.
    right_fault g.S.ObjectSpace.meaning g.M.Machine.code g.met.S.ObjectSpace.laws g.met.M.Machine.laws (g.L.ReadLog.log c.args.log.now) (g.met.L.ReadLog.limits c.args.log.now) w (world_of c.args.world) leads c.in-Err.fault c.in-Err.ensures.err

pub returns-in-Err-end-clause-refused : goal.returns-in-Err-end-clause-refused
returns-in-Err-end-clause-refused g c =
    λ w leads. starved_fault g.S.ObjectSpace.meaning g.M.Machine.code g.met.S.ObjectSpace.laws g.met.M.Machine.laws (g.L.ReadLog.log c.args.log.now) (g.met.L.ReadLog.limits c.args.log.now) w c.no_memory.result.fault c.no_memory.ensures
