use Rattle.std.proofs.Common.{ap, ◌∙◌}
use Rattle.event_core.specs.Threads.{all_steps}
use Rattle.event_core.specs.World.{world_of}
use Rattle.replay_session.proofs.Keeping.{turns_behind}
use Rattle.replay_session.proofs.PausedRuns.{pauses_turns, pauses_right, pauses_free}
use Rattle.replay_session.proofs.session.Session.run_until.Goals as goal

pub put_turns-requires-clause-leads : goal.put_turns-requires-clause-leads
put_turns-requires-clause-leads g c =
    let before = c.args.self.now in
    let count = c.steps_of_world-before.ensures.steps ∙ ap (λ x. all_steps g.M.Machine.code (world_of x).threads) c.world.ensures.same in
    turns_behind g.S.ObjectSpace.meaning g.M.Machine.code _ _ _ _ (world_of before.replay.world) _ before.legs.items _ c.steps_of_world-before.result
    (ap g.L.ReadLog.log c.rounds_until-paused.ensures.log) (ap g.O.OpenWorld.opened c.rounds_until-paused.ensures.opens) c.reserve.ensures.items count (pauses_turns g.S.ObjectSpace.meaning g.M.Machine.code _ c.args.breaks.now (g.T.Test.holds c.args.test.now) g.met.M.Machine.laws (world_of before.replay.world) (world_of c.rounds_until-paused.new.replay.world) c.rounds_until-paused.result c.rounds_until-paused.ensures.pauses) before.leads

pub returns-clause-right : goal.returns-clause-right
returns-clause-right g c =
    let after = c.rounds_until-paused.new.replay in
    pauses_right g.S.ObjectSpace.meaning g.M.Machine.code g.met.S.ObjectSpace.laws g.met.M.Machine.laws (g.L.ReadLog.log c.args.self.now.replay.log) (g.L.ReadLog.log after.log) (g.O.OpenWorld.opened c.args.self.now.replay.opens) (g.O.OpenWorld.opened after.opens)
    (world_of c.args.self.now.replay.world) (world_of after.world) c.args.breaks.now (g.T.Test.holds c.args.test.now) (ap g.L.ReadLog.log c.rounds_until-paused.ensures.log) (ap g.O.OpenWorld.opened c.rounds_until-paused.ensures.opens) after.opening after.leads c.rounds_until-paused.result c.rounds_until-paused.ensures.pauses

pub returns-clause-free : goal.returns-clause-free
returns-clause-free g c =
    let after = c.rounds_until-paused.new.replay in
    pauses_free g.S.ObjectSpace.meaning g.M.Machine.code g.met.S.ObjectSpace.laws g.met.M.Machine.laws (g.L.ReadLog.log c.args.self.now.replay.log) (g.L.ReadLog.log after.log) (g.O.OpenWorld.opened c.args.self.now.replay.opens) (g.O.OpenWorld.opened after.opens)
    (world_of c.args.self.now.replay.world) (world_of after.world) c.args.breaks.now (g.T.Test.holds c.args.test.now) (ap g.L.ReadLog.log c.rounds_until-paused.ensures.log) (ap g.O.OpenWorld.opened c.rounds_until-paused.ensures.opens) after.opening after.leads (g.met.L.ReadLog.limits c.args.self.now.replay.log) c.rounds_until-paused.result c.rounds_until-paused.ensures.pauses
