use Rattle.std.proofs.Common.{ap, arith}
use Rattle.event_core.specs.World.{world_of}
use Rattle.replay_session.specs.Legs.{steps_of_way}
use Rattle.replay_session.proofs.Keeping.{few_steps}
use Rattle.replay_session.proofs.session.Session.steps.Goals as goal

pub steps_of_way-requires : goal.steps_of_way-requires
steps_of_way-requires g c =
    let session = c.args.self.now in
    let few = few_steps g.S.ObjectSpace.meaning g.M.Machine.code g.met.S.ObjectSpace.laws g.met.M.Machine.laws (g.L.ReadLog.log session.replay.log) (g.met.L.ReadLog.limits session.replay.log) (g.O.OpenWorld.opened session.replay.opens) (world_of session.replay.world) session.legs.items session.replay.world.sound session.leads in
    let e = ap steps_of_way c.as_slice.ensures.value in
    omega (arith, e, few)
