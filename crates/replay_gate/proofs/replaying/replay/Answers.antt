use Rattle.std.proofs.Common.{[]}
use Rattle.replay_gate.proofs.Orders.{vouched_end, end_of_runs, want_of_memory, if_some, if_ok, if_err}
use Rattle.replay_gate.proofs.replaying.replay.Goals as goal

pub returns-in-Ok-Some-clause-vouches : goal.returns-in-Ok-Some-clause-vouches
returns-in-Ok-Some-clause-vouches g c =
    vouched_end g.S.ObjectSpace.meaning g.M.Machine.code g.met.S.ObjectSpace.laws g.met.M.Machine.laws (g.L.ReadLog.log c.args.log.now) (g.met.L.ReadLog.limits c.args.log.now) (g.O.OpenWorld.opened c.args.opens.now) (g.met.O.OpenWorld.opening c.args.opens.now c.requires)
    [] c.in-Ok-Some.ended (if_some _ _ _ c.in-Ok-Some.field-0-is c.in-Ok-Some.ensures [])

pub returns-in-Ok-Some-clause-recorded : goal.returns-in-Ok-Some-clause-recorded
returns-in-Ok-Some-clause-recorded g c =
    end_of_runs g.S.ObjectSpace.meaning g.M.Machine.code g.met.S.ObjectSpace.laws g.met.M.Machine.laws (g.L.ReadLog.log c.args.log.now) (g.met.L.ReadLog.limits c.args.log.now) (g.O.OpenWorld.opened c.args.opens.now) (g.met.O.OpenWorld.opening c.args.opens.now c.requires)
    [] c.in-Ok-Some.ended (if_some _ _ _ c.in-Ok-Some.field-0-is c.in-Ok-Some.ensures [])

pub returns-in-Ok-None-clause-vouches : goal.returns-in-Ok-None-clause-vouches
returns-in-Ok-None-clause-vouches g c =
    if_ok _ _ c.replay_in_order.result
    (vouched_end g.S.ObjectSpace.meaning g.M.Machine.code g.met.S.ObjectSpace.laws g.met.M.Machine.laws (g.L.ReadLog.log c.args.log.now) (g.met.L.ReadLog.limits c.args.log.now) (g.O.OpenWorld.opened c.args.opens.now) (g.met.O.OpenWorld.opening c.args.opens.now c.requires)
    c.args.order.now)
    c.replay_in_order.ensures.ended

pub returns-in-Ok-None-clause-recorded : goal.returns-in-Ok-None-clause-recorded
returns-in-Ok-None-clause-recorded g c =
    if_ok _ _ c.replay_in_order.result
    (end_of_runs g.S.ObjectSpace.meaning g.M.Machine.code g.met.S.ObjectSpace.laws g.met.M.Machine.laws (g.L.ReadLog.log c.args.log.now) (g.met.L.ReadLog.limits c.args.log.now) (g.O.OpenWorld.opened c.args.opens.now) (g.met.O.OpenWorld.opening c.args.opens.now c.requires)
    c.args.order.now)
    c.replay_in_order.ensures.ended

pub returns-in-Ok-None-clause-finishes : goal.returns-in-Ok-None-clause-finishes
returns-in-Ok-None-clause-finishes g c =
    if_err _ _ c.replay_in_order.result
    (λ r. want_of_memory g.S.ObjectSpace.meaning g.M.Machine.code g.met.S.ObjectSpace.laws g.met.M.Machine.laws (g.L.ReadLog.log c.args.log.now) (g.O.OpenWorld.opened c.args.opens.now) c.args.order.now r.fault)
    c.replay_in_order.ensures.refused
