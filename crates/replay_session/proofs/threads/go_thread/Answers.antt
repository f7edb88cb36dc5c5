use Rattle.std.proofs.Common.{◌+◌, sym, ◌∙◌, subst, arith}
use Rattle.event_core.specs.World.{world_of}
use Rattle.replay_session.specs.declared.gone.Ceased.TheVariants as ceased
use Rattle.replay_session.specs.Gone.{TurnCeases}
use Rattle.replay_session.specs.Ways.{ThreadLeads}
use Rattle.replay_session.proofs.TurnAnswers.{step_on, still_leads, ceases_below}
use Rattle.replay_session.proofs.Ways.{thread_joined}
use Rattle.replay_session.proofs.threads.go_thread.Goals as goal

pub loop-made-preserved-in-All : goal.loop-made-preserved-in-All
loop-made-preserved-in-All g c =
    let space = g.S.ObjectSpace.meaning in
    let code = g.M.Machine.code in
    let laws = g.met.M.Machine.laws in
    let log = g.L.ReadLog.log c.args.replay.now.log in
    let t = c.args.thread in
    let w = world_of c.args.replay.now.world in
    let u = world_of c.loop-made.replay.world in
    let v = world_of c.go_locally-made.new.replay.world in
    let x = world_of c.turn_once.new.replay.world in
    let inv = c.loop-made.invariant in
    let same = c.go_locally-made.ensures.log ∙ inv.log in
    let local = subst (λ r. ThreadLeads space code (g.L.ReadLog.log r) t c.go_locally-made.result u v) inv.log c.go_locally-made.ensures.leads in
    let lead = thread_joined space code laws log t c.loop-made.made c.go_locally-made.result w u v inv.leads local in
    let turn = subst (λ r. TurnCeases space code (g.L.ReadLog.log r) t v x ceased.All) same c.in-All.ensures.ceases in
    let below = c.if-made-most.true in
    record {
      leads = step_on space code log laws t (c.loop-made.made + c.go_locally-made.result) w v x lead turn;
      few = omega (arith, below);
      reads = c.in-All.ensures.reads;
      log = c.in-All.ensures.log ∙ same;
      opens = c.in-All.ensures.opens ∙ c.go_locally-made.ensures.opens ∙ inv.opens;
    }

pub returns-in_default-clause-leads : goal.returns-in_default-clause-leads
returns-in_default-clause-leads g c =
    let inv = c.loop-made.invariant in
    let v = world_of c.go_locally-made.new.replay.world in
    let same = c.go_locally-made.ensures.log ∙ inv.log in
    let local = subst (λ r. ThreadLeads g.S.ObjectSpace.meaning g.M.Machine.code (g.L.ReadLog.log r) c.args.thread c.go_locally-made.result (world_of c.loop-made.replay.world) v) inv.log c.go_locally-made.ensures.leads in
    let lead = thread_joined g.S.ObjectSpace.meaning g.M.Machine.code g.met.M.Machine.laws _ c.args.thread _ _ _ _ _ inv.leads local in
    let turn = subst (λ r. TurnCeases g.S.ObjectSpace.meaning g.M.Machine.code (g.L.ReadLog.log r) c.args.thread v (world_of c.turn_once.new.replay.world) c.turn_once.result) same c.turn_once.ensures.ceases in
    still_leads g.S.ObjectSpace.meaning g.M.Machine.code _ g.met.M.Machine.laws c.args.thread _ _ _ _ c.turn_once.result lead c.in_default.not-All turn

pub returns-in_default-clause-ceased : goal.returns-in_default-clause-ceased
returns-in_default-clause-ceased g c =
    let inv = c.loop-made.invariant in
    let v = world_of c.go_locally-made.new.replay.world in
    let same = c.go_locally-made.ensures.log ∙ inv.log in
    let turn = subst (λ r. TurnCeases g.S.ObjectSpace.meaning g.M.Machine.code (g.L.ReadLog.log r) c.args.thread v (world_of c.turn_once.new.replay.world) c.turn_once.result) same c.turn_once.ensures.ceases in
    ceases_below g.S.ObjectSpace.meaning g.M.Machine.code (g.L.ReadLog.log c.args.replay.now.log) g.met.M.Machine.laws c.args.thread (c.loop-made.made + c.go_locally-made.result) c.args.most v (world_of c.turn_once.new.replay.world) c.turn_once.result c.if-made-most.true c.in_default.not-All turn

pub loop-made-preserved : goal.loop-made-preserved
loop-made-preserved g c =
    let space = g.S.ObjectSpace.meaning in
    let code = g.M.Machine.code in
    let log = g.L.ReadLog.log c.args.replay.now.log in
    let t = c.args.thread in
    let w = world_of c.args.replay.now.world in
    let u = world_of c.loop-made.replay.world in
    let v = world_of c.go_locally-made.new.replay.world in
    let inv = c.loop-made.invariant in
    let local = subst (λ r. ThreadLeads space code (g.L.ReadLog.log r) t c.go_locally-made.result u v) inv.log c.go_locally-made.ensures.leads in
    let more = c.go_locally-made.ensures.few in
    let few = inv.few in
    record {
      leads = thread_joined space code g.met.M.Machine.laws log t c.loop-made.made c.go_locally-made.result w u v inv.leads local;
      few = omega (arith, more, few);
      reads = subst (λ r. g.L.ReadLog.reads r c.loop-made.reader) (sym c.go_locally-made.ensures.log) inv.reads;
      log = c.go_locally-made.ensures.log ∙ inv.log;
      opens = c.go_locally-made.ensures.opens ∙ inv.opens;
    }
