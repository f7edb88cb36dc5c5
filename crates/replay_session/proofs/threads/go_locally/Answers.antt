use Rattle.std.proofs.Common.{◌≡◌, ◌≤◌, subst, sym}
use Rattle.event_core.specs.World.{world_of}
use Rattle.replay_session.specs.Ways.{ThreadLeads}
use Rattle.replay_session.specs.Events.{events_on}
use Rattle.replay_session.proofs.LocalThread.{alone_leads, alone_quiet}
use Rattle.replay_session.proofs.threads.go_locally.Goals as goal

pub returns-clause-leads : goal.returns-clause-leads
returns-clause-leads g c =
    let log = g.L.ReadLog.log c.args.replay.now.log in
    let w = world_of c.args.replay.now.world in
    let v = world_of c.local_steps.new.self.world in
    let few = subst (λ x. c.least-most.result ≤ x) c.steps_left.ensures c.least-most.ensures.left in
    subst (λ n. ThreadLeads g.S.ObjectSpace.meaning g.M.Machine.code log c.args.thread n w v) (sym c.from.ensures)
    (alone_leads g.S.ObjectSpace.meaning g.M.Machine.code g.met.M.Machine.laws log (g.met.L.ReadLog.limits c.args.replay.now.log) c.args.thread c.local_steps.result c.least-most.result
    w v c.local_steps.ensures.few few c.local_steps.ensures.goes)

pub returns-clause-quiet : goal.returns-clause-quiet
returns-clause-quiet g c =
    let log = g.L.ReadLog.log c.args.replay.now.log in
    let w = world_of c.args.replay.now.world in
    let v = world_of c.local_steps.new.self.world in
    let few = subst (λ x. c.least-most.result ≤ x) c.steps_left.ensures c.least-most.ensures.left in
    subst (λ n. events_on g.S.ObjectSpace.meaning g.M.Machine.code log c.args.thread w n ≡ 0) (sym c.from.ensures)
    (alone_quiet g.S.ObjectSpace.meaning g.M.Machine.code g.met.M.Machine.laws log (g.met.L.ReadLog.limits c.args.replay.now.log) c.args.thread c.local_steps.result c.least-most.result
    w v c.local_steps.ensures.few few c.local_steps.ensures.goes)
