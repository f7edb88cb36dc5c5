use Rattle.std.proofs.Common.{sym}
use Rattle.event_core.specs.World.{world_of}
use Rattle.replay_gate.proofs.Readying.{ready_event}
use Rattle.replay_gate.proofs.ready.take_ready.Goals as goal

pub returns-in-Ok-event-clause-ready : goal.returns-in-Ok-event-clause-ready
returns-in-Ok-event-clause-ready g c =
    ready_event g.S.ObjectSpace.meaning g.M.Machine.code g.met.M.Machine.laws (g.L.ReadLog.log c.args.log.now) (g.met.L.ReadLog.limits c.args.log.now) (world_of c.args.world.now) c.args.thread c.in-Event.op
    (g.L.ReadLog.holds c.is_logged.new.reader c.args.thread) (world_of c.event.new.self) c.requires.left (sym c.in-Event.ensures) (c.is_logged.ensures.logged c.if-is_logged.true) c.in-Ok-event.ensures.ok
