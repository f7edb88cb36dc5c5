use Rattle.std.proofs.Common.{ap}
use Rattle.event_core.specs.World.{world_of}
use Rattle.replay_session.proofs.Keeping.{steps_behind}
use Rattle.replay_session.proofs.TurnAnswers.{turn_goes}
use Rattle.replay_session.proofs.session.Session.turn.Goals as goal

pub put_steps-requires-clause-leads : goal.put_steps-requires-clause-leads
put_steps-requires-clause-leads g c =
    let before = c.args.self.now in
    let done = c.in_ok-turned in
    let lead = turn_goes g.S.ObjectSpace.meaning g.M.Machine.code (g.L.ReadLog.log before.replay.log) g.met.M.Machine.laws c.args.thread c.steps_of.result (world_of before.replay.world) (world_of c.turn.new.self.world) done.turned done.ensures.ok done.ensures.world c.steps_of.ensures in
    steps_behind g.S.ObjectSpace.meaning g.M.Machine.code _ _ _ _ (world_of before.replay.world) _ before.legs.items _ c.args.thread c.steps_of.result
    (ap g.L.ReadLog.log c.turn.ensures.log) (ap g.O.OpenWorld.opened c.turn.ensures.opens) c.reserve.ensures.items lead before.leads
