use Rattle.std.proofs.Common.{◌≡◌, refl, ap, ◌∙◌, subst, arith}
use Rattle.std.proofs.lemmas.List.{drop_all}
use Rattle.std.proofs.lemmas.Result.{err_from_is_err_and}
use Rattle.event_core.specs.World.{world_of}
use Rattle.replay_session.specs.Legs.{steps_of_way}
use Rattle.replay_session.specs.Reverse.{StepOfWay, IsLastHit}
use Rattle.replay_session.proofs.LastHits.{no_steps_yet}
use Rattle.replay_session.proofs.LegByLeg.{here_leads, on_leads, few_behind, through_on, few_there, last_there}
use Rattle.replay_session.proofs.StepsOfWays.{through_start}
use Rattle.replay_session.proofs.reverse.last_hit.Goals as goal

pub loop-leg-init : goal.loop-leg-init
loop-leg-init g c =
    let space = g.S.ObjectSpace.meaning in
    let code = g.M.Machine.code in
    let laws = g.met.M.Machine.laws in
    let log = g.L.ReadLog.log c.args.replay.now.log in
    let breaks = c.args.breaks.now in
    let holds = g.T.Test.holds c.args.test.now in
    let w = world_of c.args.replay.now.world in
    record {
      rest = c.requires.leads;
      through = through_start space code laws log c.args.legs.now w;
      last = no_steps_yet space code log breaks holds (StepOfWay space code log c.args.legs.now w);
      log = refl;
      opens = refl;
    }

pub test_leg-requires : goal.test_leg-requires
test_leg-requires g c =
    let inv = c.loop-leg.invariant in
    here_leads g.met.M.Machine.laws (ap g.L.ReadLog.log inv.log) c.args.legs.now c.loop-leg.leg-index c.loop-leg-test.true (world_of c.loop-leg.replay.world) inv.rest

pub last_of-last-requires : goal.last_of-last-requires
last_of-last-requires g c =
    let inv = c.loop-leg.invariant in
    few_there g.met.M.Machine.laws (ap g.L.ReadLog.log inv.log) c.args.legs.now c.loop-leg.leg-index c.loop-leg-test.true inv.through c.args.breaks.now (g.T.Test.holds c.args.test.now) c.in_ok-of_leg.of_leg c.in_ok-of_leg.ensures.last 16000000000 c.requires.few

pub overflow_add-before : goal.overflow_add-before
overflow_add-before g c =
    let inv = c.loop-leg.invariant in
    let few = few_behind g.met.M.Machine.laws (ap g.L.ReadLog.log inv.log) c.args.legs.now c.loop-leg.leg-index c.loop-leg-test.true inv.through in
    let most = c.requires.few in
    let told = c.steps-before.ensures in
    omega (arith, few, most, told)

pub loop-leg-preserved : goal.loop-leg-preserved
loop-leg-preserved g c =
    let rules = g.met.M.Machine.laws in
    let inv = c.loop-leg.invariant in
    let same = ap g.L.ReadLog.log inv.log in
    let k = c.loop-leg.leg-index in
    let tested = c.in_ok-of_leg.ensures in
    record {
      rest = on_leads rules same c.args.legs.now k c.loop-leg-test.true (world_of c.loop-leg.replay.world) (world_of c.test_leg.new.replay.world) tested.leads inv.rest;
      through = through_on rules same c.args.legs.now k c.loop-leg-test.true inv.through (world_of c.test_leg.new.replay.world) c.steps-before.result c.steps-before.ensures tested.leads;
      last = last_there rules same c.args.legs.now k c.loop-leg-test.true inv.through c.args.breaks.now (g.T.Test.holds c.args.test.now) c.in_ok-of_leg.of_leg tested.last c.steps-before.result c.loop-leg.last c.last_of-last.result c.steps-before.ensures c.last_of-last.ensures inv.last;
      log = tested.log ∙ inv.log;
      opens = tested.opens ∙ inv.opens;
    }

pub returns : goal.returns
returns g c =
    let space = g.S.ObjectSpace.meaning in
    let code = g.M.Machine.code in
    let log = g.L.ReadLog.log c.args.replay.now.log in
    let breaks = c.args.breaks.now in
    let holds = g.T.Test.holds c.args.test.now in
    let w = world_of c.args.replay.now.world in
    let legs = c.args.legs.now in
    let inv = c.loop-leg.invariant in
    let none = drop_all c.loop-leg.leg-index legs c.loop-leg-test.false in
    let all = inv.through.count in
    let e = ap steps_of_way none in
    let end : c.loop-leg.before ≡ steps_of_way legs = omega (arith, all, e) in
    subst (λ n. IsLastHit space code log breaks holds (StepOfWay space code log legs w) n c.loop-leg.last) end inv.last

pub returns-in_err-of_leg : goal.returns-in_err-of_leg
returns-in_err-of_leg g c = let p = err_from_is_err_and c.from_residual.result c.from_residual.ensures.1 in rw p.1 tt
