use Rattle.std.proofs.Common.{◌+◌, refl, sym, ap, ◌∙◌, subst, arith, ◌≡◌, ◌<◌, length}
use Rattle.event_core.specs.World.{world_of}
use Rattle.replay_session.specs.declared.legs.Leg.TheVariants as leg
use Rattle.replay_session.specs.Gone.{TurnPasses}
use Rattle.replay_session.specs.Reverse.{last_behind, StepInRounds, StepOfLeg, TurnTests, IsLastHit}
use Rattle.replay_session.proofs.LastHits.{test_passes, last_on, last_told, no_steps_yet}
use Rattle.replay_session.proofs.RoundsSoFar.{none_so_far, turn_so_far, round_so_far, all_so_far, never_stuck}
use Rattle.replay_session.proofs.StepsOfWays.{round_step, round_once}
use Rattle.replay_session.proofs.reverse.test_rounds.Goals as goal

pub loop-made-init : goal.loop-made-init
loop-made-init g c =
    let space = g.S.ObjectSpace.meaning in
    let code = g.M.Machine.code in
    let log = g.L.ReadLog.log c.args.replay.now.log in
    let w = world_of c.args.replay.now.world in
    record {
      rounds = none_so_far space code log w c.args.steps c.count-count.result (c.count-count.ensures.count ∙ ap (λ x. length (world_of x).threads) c.world.ensures.same) c.count-count.ensures.few;
      last = no_steps_yet space code log c.args.breaks.now (g.T.Test.holds c.args.test.now) (StepInRounds space code log w);
      reads = c.reader-reader.ensures;
      log = refl;
      opens = refl;
    }

pub loop-made-preserved-then-next-count : goal.loop-made-preserved-then-next-count
loop-made-preserved-then-next-count g c =
    let space = g.S.ObjectSpace.meaning in
    let code = g.M.Machine.code in
    let laws = g.met.M.Machine.laws in
    let spaces = g.met.S.ObjectSpace.laws in
    let log = g.L.ReadLog.log c.args.replay.now.log in
    let limits = g.met.L.ReadLog.limits c.args.replay.now.log in
    let breaks = c.args.breaks.now in
    let holds = g.T.Test.holds c.args.test.now in
    let w = world_of c.args.replay.now.world in
    let u = world_of c.loop-made.replay.world in
    let v = world_of c.test_turn.new.replay.world in
    let k = c.loop-made.next in
    let m = c.loop-made.made in
    let inv = c.loop-made.invariant in
    let so = inv.rounds in
    let x = c.in_ok-tested.tested in
    let next = c.if-next-count.true in
    let all = so.all in
    let few : k < length w.threads = omega (arith, next, all) in
    let tests = subst (λ r. TurnTests space code (g.L.ReadLog.log r) breaks holds k u v x) inv.log c.in_ok-tested.ensures.tests in
    let passes = test_passes space code log breaks holds k u v x tests in
    let told = c.steps-made.ensures in
    let last = last_on space code log breaks holds (StepInRounds space code log w) m c.loop-made.last u v k x tests (λ makes. round_step space code laws log w so.at.0 k m u few so.at.1 so.sum makes)
    (λ here y s h. round_once space code laws log w spaces limits m u y k s here h) inv.last in
    record {
      rounds = turn_so_far space code log w c.args.steps laws m c.loop-made.before k _ u so spaces limits c.loop-made-test.true next c.steps-made.result v (subst (TurnPasses space code log k u v) (sym told) passes);
      last = subst (IsLastHit space code log breaks holds (StepInRounds space code log w) (m + c.steps-made.result)) (sym c.last_behind-last.ensures)
          (subst (λ s. IsLastHit space code log breaks holds (StepInRounds space code log w) (m + s) (last_behind c.loop-made.last m x)) (sym told) last);
      reads = c.in_ok-tested.ensures.reads;
      log = c.in_ok-tested.ensures.log ∙ inv.log;
      opens = c.in_ok-tested.ensures.opens ∙ inv.opens;
    }

pub loop-made-preserved : goal.loop-made-preserved
loop-made-preserved g c =
    let inv = c.loop-made.invariant in
    record {
      rounds = round_so_far g.S.ObjectSpace.meaning g.M.Machine.code (g.L.ReadLog.log c.args.replay.now.log) (world_of c.args.replay.now.world) c.args.steps g.met.M.Machine.laws c.loop-made.made c.loop-made.before c.loop-made.next _ (world_of c.loop-made.replay.world)
          inv.rounds c.if-next-count.false;
      last = inv.last;
      reads = inv.reads;
      log = inv.log;
      opens = inv.opens;
    }

pub unreachable-requires : goal.unreachable-requires
unreachable-requires g c =
    never_stuck g.S.ObjectSpace.meaning g.M.Machine.code (g.L.ReadLog.log c.args.replay.now.log) (world_of c.args.replay.now.world) c.args.steps g.met.M.Machine.laws c.loop-made.made c.loop-made.before c.loop-made.next _ (world_of c.loop-made.replay.world)
    c.loop-made.invariant.rounds c.if-next-count.false c.if-before-made.false c.loop-made-test.true c.requires

pub returns-clause-leads : goal.returns-clause-leads
returns-clause-leads g c =
    all_so_far g.S.ObjectSpace.meaning g.M.Machine.code (g.L.ReadLog.log c.args.replay.now.log) (world_of c.args.replay.now.world) c.args.steps c.loop-made.made c.loop-made.before c.loop-made.next _ (world_of c.loop-made.replay.world)
    c.loop-made.invariant.rounds c.loop-made-test.false

pub returns-clause-last : goal.returns-clause-last
returns-clause-last g c =
    let space = g.S.ObjectSpace.meaning in
    let code = g.M.Machine.code in
    let log = g.L.ReadLog.log c.args.replay.now.log in
    let breaks = c.args.breaks.now in
    let holds = g.T.Test.holds c.args.test.now in
    let w = world_of c.args.replay.now.world in
    let inv = c.loop-made.invariant in
    let few = inv.rounds.few in
    let past = c.loop-made-test.false in
    let end : c.loop-made.made ≡ c.args.steps = omega (arith, few, past) in
    last_told space code log breaks holds (StepInRounds space code log w) (StepOfLeg space code log (leg.Rounds c.args.steps) w) c.args.steps (λ n x t l h. (l, h)) (λ n x t l h. h.1) c.loop-made.last
    (subst (λ b. IsLastHit space code log breaks holds (StepInRounds space code log w) b c.loop-made.last) end inv.last)
