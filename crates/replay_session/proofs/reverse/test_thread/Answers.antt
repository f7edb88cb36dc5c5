use Rattle.std.proofs.Common.{◌≡◌, ◌+◌, true, refl, sym, ap, ◌∙◌, subst, arith}
use Rattle.event_core.specs.World.{world_of}
use Rattle.replay_laws.specs.Turns.{turn_of}
use Rattle.replay_gate.specs.Answers.{makes_step}
use Rattle.replay_session.specs.declared.legs.Leg.TheVariants as leg
use Rattle.replay_session.specs.Reverse.{steps_of_test, last_behind, StepOfLeg, TurnTests, IsLastHit}
use Rattle.replay_session.specs.Ways.{thread_world}
use Rattle.replay_session.proofs.LastHits.{makes_one, test_passes, last_on}
use Rattle.replay_session.proofs.StepsOfWays.{thread_makes, thread_next}
use Rattle.replay_session.proofs.reverse.test_thread.Goals as goal

pub loop-made-preserved : goal.loop-made-preserved
loop-made-preserved g c =
    let space = g.S.ObjectSpace.meaning in
    let code = g.M.Machine.code in
    let laws = g.met.M.Machine.laws in
    let log = g.L.ReadLog.log c.args.replay.now.log in
    let breaks = c.args.breaks.now in
    let holds = g.T.Test.holds c.args.test.now in
    let w = world_of c.args.replay.now.world in
    let t = c.args.thread in
    let n = c.loop-made.made in
    let inv = c.loop-made.invariant in
    let u = world_of c.loop-made.replay.world in
    let v = world_of c.test_turn.new.replay.world in
    let x = c.in_ok-tested.tested in
    let below = c.loop-made-test.true in
    let tests = subst (λ r. TurnTests space code (g.L.ReadLog.log r) breaks holds t u v x) inv.log c.in_ok-tested.ensures.tests in
    let passes = test_passes space code log breaks holds t u v x tests in
    let makes : makes_step (turn_of space code log u t) ≡ true = ap (λ y. makes_step (turn_of space code log y t)) inv.at ∙ thread_makes space code laws log t c.args.steps w c.requires n below in
    let one : steps_of_test x ≡ 1 = passes.0 ∙ sym (makes_one (turn_of space code log u t) makes) in
    let last = last_on space code log breaks holds (StepOfLeg space code log (leg.Thread t c.args.steps) w) n c.loop-made.last u v t x tests (λ made. (below, inv.at, refl)) (λ here y s h. (h.1 ∙ sym inv.at, h.2)) inv.last in
    record {
      at = thread_next space code laws log t n w u v (steps_of_test x) inv.at makes passes;
      last = subst (IsLastHit space code log breaks holds (StepOfLeg space code log (leg.Thread t c.args.steps) w) (n + 1)) (sym c.last_behind-last.ensures)
          (subst (λ k. IsLastHit space code log breaks holds (StepOfLeg space code log (leg.Thread t c.args.steps) w) (n + k) (last_behind c.loop-made.last n x)) one last);
      reads = c.in_ok-tested.ensures.reads;
      log = c.in_ok-tested.ensures.log ∙ inv.log;
      opens = c.in_ok-tested.ensures.opens ∙ inv.opens;
    }

pub returns-clause-leads : goal.returns-clause-leads
returns-clause-leads g c =
    let space = g.S.ObjectSpace.meaning in
    let code = g.M.Machine.code in
    let laws = g.met.M.Machine.laws in
    let log = g.L.ReadLog.log c.args.replay.now.log in
    let w = world_of c.args.replay.now.world in
    let t = c.args.thread in
    let n = c.loop-made.made in
    let inv = c.loop-made.invariant in
    let a = c.loop-made.auto.made-end in
    let b = c.loop-made-test.false in
    let end : n ≡ c.args.steps = omega (arith, a, b) in
    record { steps = λ i l. thread_makes space code laws log t c.args.steps w c.requires i l; leads = inv.at ∙ ap (thread_world space code log w t) end }

pub returns-clause-last : goal.returns-clause-last
returns-clause-last g c =
    let space = g.S.ObjectSpace.meaning in
    let code = g.M.Machine.code in
    let log = g.L.ReadLog.log c.args.replay.now.log in
    let breaks = c.args.breaks.now in
    let holds = g.T.Test.holds c.args.test.now in
    let w = world_of c.args.replay.now.world in
    let t = c.args.thread in
    let n = c.loop-made.made in
    let inv = c.loop-made.invariant in
    let a = c.loop-made.auto.made-end in
    let b = c.loop-made-test.false in
    let end : n ≡ c.args.steps = omega (arith, a, b) in
    subst (λ m. IsLastHit space code log breaks holds (StepOfLeg space code log (leg.Thread t c.args.steps) w) m c.loop-made.last) end inv.last
