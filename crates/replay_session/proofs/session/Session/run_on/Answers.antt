use Rattle.std.proofs.Common.{ap, ◌∙◌}
use Rattle.event_core.specs.Threads.{all_steps}
use Rattle.event_core.specs.World.{world_of}
use Rattle.replay_session.proofs.Keeping.{turns_behind}
use Rattle.replay_session.proofs.Together.{stops_turns}
use Rattle.replay_session.proofs.session.Session.run_on.Goals as goal

pub put_turns-requires-clause-leads : goal.put_turns-requires-clause-leads
put_turns-requires-clause-leads g c =
    let before = c.args.self.now in
    let count = c.steps_of_world-before.ensures.steps ∙ ap (λ x. all_steps g.M.Machine.code (world_of x).threads) c.world.ensures.same in
    turns_behind g.S.ObjectSpace.meaning g.M.Machine.code _ _ _ _ (world_of before.replay.world) _ before.legs.items _ c.steps_of_world-before.result
    (ap g.L.ReadLog.log c.run_and_keep-stopped.ensures.log) (ap g.O.OpenWorld.opened c.run_and_keep-stopped.ensures.opens) c.reserve.ensures.items count (stops_turns g.S.ObjectSpace.meaning g.M.Machine.code g.met.M.Machine.laws _ (world_of before.replay.world) c.args.breaks.now (world_of c.run_and_keep-stopped.new.replay.world) c.run_and_keep-stopped.result c.run_and_keep-stopped.ensures.stops) before.leads
