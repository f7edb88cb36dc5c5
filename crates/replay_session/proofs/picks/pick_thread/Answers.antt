use Rattle.std.proofs.Common.{◌≡◌, ◌+◌, true, length, refl, sym, ap, ◌∙◌, subst, arith}
use Rattle.event_core.specs.World.{world_of}
use Rattle.replay_laws.specs.Turns.{turn_of}
use Rattle.replay_gate.specs.Answers.{makes_step}
use Rattle.replay_session.specs.Picks.{ArePut}
use Rattle.replay_session.specs.Ways.{thread_world}
use Rattle.replay_session.proofs.LastHits.{makes_one}
use Rattle.replay_session.proofs.PutPicks.{none_put, turn_answered}
use Rattle.replay_session.proofs.StepsOfWays.{thread_makes, thread_next}
use Rattle.replay_session.proofs.picks.pick_thread.Goals as goal

pub loop-made-init : goal.loop-made-init
loop-made-init g c =
    let count = c.count-count.ensures.count ∙ ap (λ x. length (world_of x).threads) c.world.ensures.same in
    let most = c.count-count.ensures.few in
    record {
      at = refl;
      put = none_put g.S.ObjectSpace.meaning g.M.Machine.code (g.L.ReadLog.log c.args.replay.now.log) c.args.picks.now (world_of c.args.replay.now.world);
      few = omega (arith, count, most);
      reads = c.reader-reader.ensures;
      log = refl;
      opens = refl;
    }

pub loop-made-preserved : goal.loop-made-preserved
loop-made-preserved g c =
    let space = g.S.ObjectSpace.meaning in
    let code = g.M.Machine.code in
    let laws = g.met.M.Machine.laws in
    let log = g.L.ReadLog.log c.args.replay.now.log in
    let w = world_of c.args.replay.now.world in
    let t = c.args.thread in
    let n = c.loop-made._made in
    let inv = c.loop-made.invariant in
    let u = world_of c.loop-made.replay.world in
    let v = world_of c.pick_turn.new.replay.world in
    let turned = c.in_ok-input.ensures in
    let all = turn_answered space code log g.met.S.ObjectSpace.laws laws (g.met.L.ReadLog.limits c.args.replay.now.log) (g.L.ReadLog.log c.loop-made.replay.log) (ap g.L.ReadLog.log inv.log) t n c.in_ok-put_pick.field-0 c.args.picks.now c.loop-made.picks c.put_pick.new.picks w u v c.in_ok-input.input inv.few inv.put turned.input turned.world c.in_ok-put_pick.ensures.put c.in_ok-put_pick.ensures.count in
    let makes : makes_step (turn_of space code log u t) ≡ true = ap (λ y. makes_step (turn_of space code log y t)) inv.at ∙ thread_makes space code laws log t c.args.steps w c.requires.leads n c.loop-made-test.true in
    let one : c.in_ok-put_pick.field-0 ≡ 1 = all.1.0 ∙ sym (makes_one (turn_of space code log u t) makes) in
    record {
      at = thread_next space code laws log t n w u v c.in_ok-put_pick.field-0 inv.at makes all.1;
      put = subst (λ k. ArePut space code log (n + k) c.args.picks.now c.put_pick.new.picks w v) one all.0;
      few = all.2;
      reads = turned.reads;
      log = turned.log ∙ inv.log;
      opens = turned.opens ∙ inv.opens;
    }

pub returns-clause-leads : goal.returns-clause-leads
returns-clause-leads g c =
    let space = g.S.ObjectSpace.meaning in
    let code = g.M.Machine.code in
    let log = g.L.ReadLog.log c.args.replay.now.log in
    let w = world_of c.args.replay.now.world in
    let t = c.args.thread in
    let a = c.loop-made.auto._made-end in
    let b = c.loop-made-test.false in
    let end : c.loop-made._made ≡ c.args.steps = omega (arith, a, b) in
    record { steps = λ i l. thread_makes space code g.met.M.Machine.laws log t c.args.steps w c.requires.leads i l; leads = c.loop-made.invariant.at ∙ ap (thread_world space code log w t) end }
