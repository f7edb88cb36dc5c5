use Rattle.std.proofs.Common.{ap}
use Rattle.event_core.specs.World.{world_of}
use Rattle.replay_gate.proofs.Refusing.{leads_merely, shows_merely}
use Rattle.replay_laws.proofs.Orders.{ordered_runs_are_gated}
use Rattle.replay_laws.specs.Ordered.{ordered_world, ordered_picks}
use Rattle.replay_gate.proofs.Recorded.{stops_right, stops_free}
use Rattle.replay_gate.proofs.running.run_watched.Goals as goal

pub returns-clause-right : goal.returns-clause-right
returns-clause-right g c =
    let r = c.run_by.new.replay in
    stops_right g.S.ObjectSpace.meaning g.M.Machine.code g.met.S.ObjectSpace.laws g.met.M.Machine.laws (g.L.ReadLog.log c.args.replay.now.log) (g.L.ReadLog.log r.log) (g.O.OpenWorld.opened c.args.replay.now.opens) (g.O.OpenWorld.opened r.opens)
    (world_of c.args.replay.now.world) (world_of r.world) c.args.order.now c.args.breaks.now (ap g.L.ReadLog.log c.run_by.ensures.log) (ap g.O.OpenWorld.opened c.run_by.ensures.opens) r.opening r.leads c.run_by.result c.run_by.ensures.stops

pub returns-clause-free : goal.returns-clause-free
returns-clause-free g c =
    let r = c.run_by.new.replay in
    stops_free g.S.ObjectSpace.meaning g.M.Machine.code g.met.S.ObjectSpace.laws g.met.M.Machine.laws (g.L.ReadLog.log c.args.replay.now.log) (g.L.ReadLog.log r.log) (g.O.OpenWorld.opened c.args.replay.now.opens) (g.O.OpenWorld.opened r.opens)
    (world_of c.args.replay.now.world) (world_of r.world) c.args.order.now c.args.breaks.now (ap g.L.ReadLog.log c.run_by.ensures.log) (ap g.O.OpenWorld.opened c.run_by.ensures.opens) r.opening r.leads (g.met.L.ReadLog.limits c.args.replay.now.log) c.run_by.result c.run_by.ensures.stops

pub returns-clause-way : goal.returns-clause-way
returns-clause-way g c k =
    let space = g.S.ObjectSpace.meaning in
    let code = g.M.Machine.code in
    let laws = g.met.S.ObjectSpace.laws in
    let rules = g.met.M.Machine.laws in
    let r = c.args.replay.now in
    let log = g.L.ReadLog.log r.log in
    let opened = g.O.OpenWorld.opened r.opens in
    let start = world_of r.world in
    let order = c.args.order.now in
    let o = ordered_runs_are_gated space code laws rules log (g.met.L.ReadLog.limits r.log) start order k in
    let w = ordered_world space code log start order k in
    shows_merely space code laws rules log opened w r.opening
    (leads_merely space code laws rules log opened start w r.leads (record { picks = ordered_picks space code log start order k; gated = o.gated; leads = o.world }))
