use Rattle.std.proofs.Common.{ap}
use Rattle.event_core.specs.World.{world_of}
use Rattle.replay_session.proofs.Keeping.{steps_behind}
use Rattle.replay_session.proofs.Refusals.{cease_refuses, right_so, free_so}
use Rattle.replay_session.proofs.session.Session.thread_steps.Goals as goal

pub put_steps-requires-clause-leads : goal.put_steps-requires-clause-leads
put_steps-requires-clause-leads g c =
    let before = c.args.self.now in
    steps_behind g.S.ObjectSpace.meaning g.M.Machine.code _ _ _ _ (world_of before.replay.world) _ before.legs.items _ c.args.thread c.go_thread-gone.result.steps
    (ap g.L.ReadLog.log c.go_thread-gone.ensures.log) (ap g.O.OpenWorld.opened c.go_thread-gone.ensures.opens) c.reserve.ensures.items c.go_thread-gone.ensures.leads before.leads

pub returns-clause-right : goal.returns-clause-right
returns-clause-right g c =
    let after = c.go_thread-gone.new.replay in
    right_so g.S.ObjectSpace.meaning g.M.Machine.code g.met.S.ObjectSpace.laws g.met.M.Machine.laws _ _ _ _ (world_of after.world) c.args.thread c.go_thread-gone.result.ceased
    (ap g.L.ReadLog.log c.go_thread-gone.ensures.log) (ap g.O.OpenWorld.opened c.go_thread-gone.ensures.opens) c.args.self.now.replay.opening after.leads (cease_refuses g.S.ObjectSpace.meaning g.M.Machine.code (g.L.ReadLog.log c.args.self.now.replay.log) (world_of after.world) c.args.thread c.go_thread-gone.result.steps c.args.most c.go_thread-gone.result.ceased c.go_thread-gone.ensures.ceased)

pub returns-clause-free : goal.returns-clause-free
returns-clause-free g c =
    let after = c.go_thread-gone.new.replay in
    free_so g.S.ObjectSpace.meaning g.M.Machine.code g.met.S.ObjectSpace.laws g.met.M.Machine.laws _ _ _ _ (world_of after.world) c.args.thread c.go_thread-gone.result.ceased
    (ap g.L.ReadLog.log c.go_thread-gone.ensures.log) (ap g.O.OpenWorld.opened c.go_thread-gone.ensures.opens) c.args.self.now.replay.opening after.leads (cease_refuses g.S.ObjectSpace.meaning g.M.Machine.code (g.L.ReadLog.log c.args.self.now.replay.log) (world_of after.world) c.args.thread c.go_thread-gone.result.steps c.args.most c.go_thread-gone.result.ceased c.go_thread-gone.ensures.ceased)
