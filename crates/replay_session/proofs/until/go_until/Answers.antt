use Rattle.std.proofs.Common.{refl, sym, ap, ◌∙◌, subst, arith}
use Rattle.event_core.specs.World.{world_of}
use Rattle.replay_session.specs.declared.gone.Ceased.TheVariants as ceased
use Rattle.replay_session.specs.Gone.{TurnCeases}
use Rattle.replay_session.proofs.Keeping.{few_leads}
use Rattle.replay_session.proofs.TurnAnswers.{step_on, still_leads}
use Rattle.replay_session.proofs.UntilTests.{none_yet, none_on, ceases_there, ceases_so}
use Rattle.replay_session.proofs.Ways.{no_thread_turns}
use Rattle.replay_session.proofs.until.go_until.Goals as goal

pub loop-made-init : goal.loop-made-init
loop-made-init g c =
    let log = g.L.ReadLog.log c.args.replay.now.log in
    let w = world_of c.args.replay.now.world in
    record {
      leads = no_thread_turns g.S.ObjectSpace.meaning g.M.Machine.code g.met.M.Machine.laws log c.args.thread w;
      none = none_yet g.S.ObjectSpace.meaning g.M.Machine.code log (g.T.Test.holds c.args.test.now) c.args.thread w;
      short = omega arith;
      reads = c.reader-reader.ensures;
      log = refl;
      opens = refl;
    }

pub overflow_add-made : goal.overflow_add-made
overflow_add-made g c = let short = c.loop-made.invariant.short in omega (arith, short)

pub loop-made-smaller : goal.loop-made-smaller
loop-made-smaller g c =
    let inv = c.loop-made.invariant in
    let turn = subst (λ r. TurnCeases g.S.ObjectSpace.meaning g.M.Machine.code (g.L.ReadLog.log r) c.args.thread (world_of c.loop-made.replay.world) (world_of c.turn_once.new.replay.world) ceased.All) inv.log c.in-All.ensures.ceases in
    let lead = step_on g.S.ObjectSpace.meaning g.M.Machine.code _ g.met.M.Machine.laws c.args.thread _ _ _ _ inv.leads turn in
    let short = few_leads g.S.ObjectSpace.meaning g.M.Machine.code g.met.S.ObjectSpace.laws g.met.M.Machine.laws (g.met.L.ReadLog.limits c.args.replay.now.log) c.turn_once.new.replay.world.sound lead in
    omega (arith, short)

pub loop-made-preserved : goal.loop-made-preserved
loop-made-preserved g c =
    let inv = c.loop-made.invariant in
    let v = world_of c.turn_once.new.replay.world in
    let turn = subst (λ r. TurnCeases g.S.ObjectSpace.meaning g.M.Machine.code (g.L.ReadLog.log r) c.args.thread (world_of c.loop-made.replay.world) v ceased.All) inv.log c.in-All.ensures.ceases in
    let lead = step_on g.S.ObjectSpace.meaning g.M.Machine.code _ g.met.M.Machine.laws c.args.thread _ _ _ _ inv.leads turn in
    let tested = c.test.ensures ∙ ap (λ x. g.T.Test.holds c.args.test.now (world_of x) c.args.thread) c.world.ensures.same in
    record {
      leads = lead;
      none = none_on g.S.ObjectSpace.meaning g.M.Machine.code (g.L.ReadLog.log c.args.replay.now.log) (g.T.Test.holds c.args.test.now) c.args.thread c.loop-made.made c.test.result (world_of c.args.replay.now.world) v inv.none lead tested (sym c.is_some.ensures ∙ c.if-is_some.false);
      short = few_leads g.S.ObjectSpace.meaning g.M.Machine.code g.met.S.ObjectSpace.laws g.met.M.Machine.laws (g.met.L.ReadLog.limits c.args.replay.now.log) c.turn_once.new.replay.world.sound lead;
      reads = c.in-All.ensures.reads;
      log = c.in-All.ensures.log ∙ inv.log;
      opens = c.in-All.ensures.opens ∙ inv.opens;
    }

pub returns-then-is_some-clause-leads : goal.returns-then-is_some-clause-leads
returns-then-is_some-clause-leads g c =
    let inv = c.loop-made.invariant in
    step_on g.S.ObjectSpace.meaning g.M.Machine.code _ g.met.M.Machine.laws c.args.thread _ _ _ _ inv.leads
    (subst (λ r. TurnCeases g.S.ObjectSpace.meaning g.M.Machine.code (g.L.ReadLog.log r) c.args.thread (world_of c.loop-made.replay.world) (world_of c.turn_once.new.replay.world) ceased.All) inv.log c.in-All.ensures.ceases)

pub returns-then-is_some-clause-ceased : goal.returns-then-is_some-clause-ceased
returns-then-is_some-clause-ceased g c =
    let tested = c.test.ensures ∙ ap (λ x. g.T.Test.holds c.args.test.now (world_of x) c.args.thread) c.world.ensures.same in
    ceases_there g.S.ObjectSpace.meaning g.M.Machine.code (g.L.ReadLog.log c.args.replay.now.log) (g.T.Test.holds c.args.test.now) c.args.thread c.loop-made.made c.test.result (world_of c.args.replay.now.world) (world_of c.turn_once.new.replay.world) c.loop-made.invariant.none tested (sym c.is_some.ensures ∙ c.if-is_some.true)

pub returns-in_default-clause-leads : goal.returns-in_default-clause-leads
returns-in_default-clause-leads g c =
    let inv = c.loop-made.invariant in
    let turn = subst (λ r. TurnCeases g.S.ObjectSpace.meaning g.M.Machine.code (g.L.ReadLog.log r) c.args.thread (world_of c.loop-made.replay.world) (world_of c.turn_once.new.replay.world) c.turn_once.result) inv.log c.turn_once.ensures.ceases in
    still_leads g.S.ObjectSpace.meaning g.M.Machine.code _ g.met.M.Machine.laws c.args.thread _ _ _ _ c.turn_once.result inv.leads c.in_default.not-All turn

pub returns-in_default-clause-ceased : goal.returns-in_default-clause-ceased
returns-in_default-clause-ceased g c =
    let inv = c.loop-made.invariant in
    let turn = subst (λ r. TurnCeases g.S.ObjectSpace.meaning g.M.Machine.code (g.L.ReadLog.log r) c.args.thread (world_of c.loop-made.replay.world) (world_of c.turn_once.new.replay.world) c.turn_once.result) inv.log c.turn_once.ensures.ceases in
    ceases_so g.S.ObjectSpace.meaning g.M.Machine.code (g.L.ReadLog.log c.args.replay.now.log) (g.T.Test.holds c.args.test.now) c.args.thread c.loop-made.made c.turn_once.result (world_of c.args.replay.now.world) (world_of c.loop-made.replay.world) (world_of c.turn_once.new.replay.world) inv.none c.in_default.not-All turn
