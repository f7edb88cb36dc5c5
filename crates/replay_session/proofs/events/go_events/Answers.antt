use Rattle.std.proofs.Common.{refl, sym, ap, ◌∙◌, arith}
use Rattle.event_core.specs.World.{world_of}
use Rattle.replay_session.proofs.EventCounts.{few_events}
use Rattle.replay_session.proofs.EventTurns.{answered, few_counted, same_lead, ceases_refused, done_still, ceases_done, turn_counted, ends_counted, local_counted}
use Rattle.replay_session.proofs.Keeping.{few_leads}
use Rattle.replay_session.proofs.Ways.{no_thread_turns}
use Rattle.replay_session.proofs.events.go_events.Goals as goal

pub loop-events-init : goal.loop-events-init
loop-events-init g c = record {
  at = record { leads = no_thread_turns g.S.ObjectSpace.meaning g.M.Machine.code g.met.M.Machine.laws (g.L.ReadLog.log c.args.replay.now.log) c.args.thread (world_of c.args.replay.now.world); events = refl };
  few = omega arith;
  ends = λ none. tt;
  short = omega arith;
  reads = c.reader-reader.ensures;
  log = refl;
  opens = refl;
}

pub overflow_add-made : goal.overflow_add-made
overflow_add-made g c =
    let inv = c.loop-events.invariant in
    let far = local_counted g.met.M.Machine.laws inv.at (ap g.L.ReadLog.log inv.log) c.go_locally-made.ensures.leads c.go_locally-made.ensures.quiet in
    let short = few_leads g.S.ObjectSpace.meaning g.M.Machine.code g.met.S.ObjectSpace.laws g.met.M.Machine.laws (g.met.L.ReadLog.limits c.args.replay.now.log) c.go_locally-made.new.replay.world.sound far.leads in
    omega (arith, short)

pub overflow_add-made-in-Ok : goal.overflow_add-made-in-Ok
overflow_add-made-in-Ok g c =
    let inv = c.loop-events.invariant in
    let far = local_counted g.met.M.Machine.laws inv.at (ap g.L.ReadLog.log inv.log) c.go_locally-made.ensures.leads c.go_locally-made.ensures.quiet in
    let short = few_leads g.S.ObjectSpace.meaning g.M.Machine.code g.met.S.ObjectSpace.laws g.met.M.Machine.laws (g.met.L.ReadLog.limits c.args.replay.now.log) c.go_locally-made.new.replay.world.sound far.leads in
    omega (arith, short)

pub returns-in-Err-clause-few : goal.returns-in-Err-clause-few
returns-in-Err-clause-few g c =
    let inv = c.loop-events.invariant in
    few_counted (local_counted g.met.M.Machine.laws inv.at (ap g.L.ReadLog.log inv.log) c.go_locally-made.ensures.leads c.go_locally-made.ensures.quiet) c.loop-events-test.true

pub returns-in-Err-clause-leads : goal.returns-in-Err-clause-leads
returns-in-Err-clause-leads g c =
    let inv = c.loop-events.invariant in
    same_lead (local_counted g.met.M.Machine.laws inv.at (ap g.L.ReadLog.log inv.log) c.go_locally-made.ensures.leads c.go_locally-made.ensures.quiet) c.in-Err.ensures.unchanged

pub returns-in-Err-clause-ceased : goal.returns-in-Err-clause-ceased
returns-in-Err-clause-ceased g c =
    let inv = c.loop-events.invariant in
    let far = local_counted g.met.M.Machine.laws inv.at (ap g.L.ReadLog.log inv.log) c.go_locally-made.ensures.leads c.go_locally-made.ensures.quiet in
    ceases_refused far c.in-Err.fault (ap g.L.ReadLog.log (c.go_locally-made.ensures.log ∙ inv.log)) c.loop-events-test.true c.in-Err.ensures.unchanged c.in-Err.ensures.refused

pub returns-then-steps_of-eq0-clause-few : goal.returns-then-steps_of-eq0-clause-few
returns-then-steps_of-eq0-clause-few g c =
    let inv = c.loop-events.invariant in
    few_counted (local_counted g.met.M.Machine.laws inv.at (ap g.L.ReadLog.log inv.log) c.go_locally-made.ensures.leads c.go_locally-made.ensures.quiet) c.loop-events-test.true

pub returns-then-steps_of-eq0-clause-leads : goal.returns-then-steps_of-eq0-clause-leads
returns-then-steps_of-eq0-clause-leads g c =
    let inv = c.loop-events.invariant in
    let far = local_counted g.met.M.Machine.laws inv.at (ap g.L.ReadLog.log inv.log) c.go_locally-made.ensures.leads c.go_locally-made.ensures.quiet in
    let turned = answered far (ap g.L.ReadLog.log (c.go_locally-made.ensures.log ∙ inv.log)) c.in-Ok.ensures.ok c.in-Ok.ensures.world in
    same_lead far (done_still far turned (sym c.steps_of.ensures ∙ c.if-steps_of-eq0.true))

pub returns-then-steps_of-eq0-clause-ceased : goal.returns-then-steps_of-eq0-clause-ceased
returns-then-steps_of-eq0-clause-ceased g c =
    let inv = c.loop-events.invariant in
    let far = local_counted g.met.M.Machine.laws inv.at (ap g.L.ReadLog.log inv.log) c.go_locally-made.ensures.leads c.go_locally-made.ensures.quiet in
    let turned = answered far (ap g.L.ReadLog.log (c.go_locally-made.ensures.log ∙ inv.log)) c.in-Ok.ensures.ok c.in-Ok.ensures.world in
    ceases_done far turned c.loop-events-test.true (sym c.steps_of.ensures ∙ c.if-steps_of-eq0.true)

pub loop-events-smaller : goal.loop-events-smaller
loop-events-smaller g c =
    let inv = c.loop-events.invariant in
    let far = local_counted g.met.M.Machine.laws inv.at (ap g.L.ReadLog.log inv.log) c.go_locally-made.ensures.leads c.go_locally-made.ensures.quiet in
    let turned = answered far (ap g.L.ReadLog.log (c.go_locally-made.ensures.log ∙ inv.log)) c.in-Ok.ensures.ok c.in-Ok.ensures.world in
    let on = turn_counted far turned g.met.M.Machine.laws (λ none. c.if-steps_of-eq0.false (c.steps_of.ensures ∙ none)) c.events_of-events.ensures in
    let short = few_leads g.S.ObjectSpace.meaning g.M.Machine.code g.met.S.ObjectSpace.laws g.met.M.Machine.laws (g.met.L.ReadLog.limits c.args.replay.now.log) c.turn_by.new.self.world.sound on.leads in
    omega (arith, short)

pub loop-events-preserved : goal.loop-events-preserved
loop-events-preserved g c =
    let inv = c.loop-events.invariant in
    let same = c.go_locally-made.ensures.log ∙ inv.log in
    let far = local_counted g.met.M.Machine.laws inv.at (ap g.L.ReadLog.log inv.log) c.go_locally-made.ensures.leads c.go_locally-made.ensures.quiet in
    let turned = answered far (ap g.L.ReadLog.log same) c.in-Ok.ensures.ok c.in-Ok.ensures.world in
    let on = turn_counted far turned g.met.M.Machine.laws (λ none. c.if-steps_of-eq0.false (c.steps_of.ensures ∙ none)) c.events_of-events.ensures in
    let short = few_leads g.S.ObjectSpace.meaning g.M.Machine.code g.met.S.ObjectSpace.laws g.met.M.Machine.laws (g.met.L.ReadLog.limits c.args.replay.now.log) c.turn_by.new.self.world.sound on.leads in
    let below = c.loop-events-test.true in
    let told = c.events_of-events.ensures in
    let one = few_events c.in-Ok.turned in
    record {
      at = on;
      few = omega (arith, below, told, one);
      ends = λ all. ends_counted far turned g.met.M.Machine.laws told below all;
      short = short;
      reads = c.in-Ok.ensures.reads;
      log = c.in-Ok.ensures.log ∙ same;
      opens = c.in-Ok.ensures.opens ∙ c.go_locally-made.ensures.opens ∙ inv.opens;
    }
