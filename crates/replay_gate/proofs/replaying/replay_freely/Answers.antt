use Rattle.event_core.specs.World.{world_of}
use Rattle.replay_gate.proofs.Orders.{every_order}
use Rattle.replay_gate.proofs.replaying.replay_freely.Goals as goal

pub returns : goal.returns
returns g c =
    every_order g.S.ObjectSpace.meaning g.M.Machine.code g.met.S.ObjectSpace.laws g.met.M.Machine.laws (g.L.ReadLog.log c.args.log.now) (g.O.OpenWorld.opened c.args.opens.now) (world_of c.in-Ok.world) (world_of c.run_freely.new.world) c.in-Ok-end.ended
    (g.met.O.OpenWorld.opening c.args.opens.now c.requires) c.in-Ok.ensures c.in-Ok-true.ensures.ok (c.in-Ok-true.ensures.finished c.in-Ok-true.field-0-test) c.in-Ok-end.ensures
