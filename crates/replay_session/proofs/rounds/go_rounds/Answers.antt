use Rattle.std.proofs.Common.{◌<◌, refl, ◌∙◌, subst, arith}
use Rattle.event_core.specs.World.{world_of}
use Rattle.replay_session.specs.Rounds.{RoundsGo, AllRest}
use Rattle.replay_session.specs.Ways.{TurnsLead}
use Rattle.replay_session.proofs.RoundTurns.{none_yet, none_asked, missing_all, missing_whole, runs_dry}
use Rattle.replay_session.proofs.rounds.go_rounds.Goals as goal

pub loop-missing-init : goal.loop-missing-init
loop-missing-init g c =
    let space = g.S.ObjectSpace.meaning in
    let code = g.M.Machine.code in
    let laws = g.met.M.Machine.laws in
    let log = g.L.ReadLog.log c.args.replay.now.log in
    let w = world_of c.args.replay.now.world in
    record {
      few = omega arith;
      all = λ h. none_asked space code laws log w c.args.steps h;
      whole = λ h. none_yet space code laws log w c.args.steps;
      reads = c.reader-reader.ensures;
      log = refl;
      opens = refl;
    }

pub loop-missing-preserved : goal.loop-missing-preserved
loop-missing-preserved g c =
    let space = g.S.ObjectSpace.meaning in
    let code = g.M.Machine.code in
    let laws = g.met.M.Machine.laws in
    let log = g.L.ReadLog.log c.args.replay.now.log in
    let w = world_of c.args.replay.now.world in
    let u = world_of c.loop-missing.replay.world in
    let v = world_of c.go_some.new.replay.world in
    let inv = c.loop-missing.invariant in
    let missing = c.loop-missing.missing in
    let made = c.in_ok-made.made in
    let before = inv.whole c.loop-missing-test.true in
    let leads = subst (λ r. TurnsLead space code (g.L.ReadLog.log r) made u v) inv.log c.in_ok-made.ensures.leads in
    let whole = subst (λ r. made < missing → RoundsGo space code (g.L.ReadLog.log r) made u v) inv.log c.in_ok-made.ensures.whole in
    let few = inv.few in
    record {
      few = omega (arith, few);
      all = λ h. missing_all space code laws log w c.args.steps missing made u v few c.in_ok-made.ensures.few before leads h;
      whole = λ h. missing_whole space code laws log w c.args.steps missing made u v few c.in_ok-made.ensures.few before whole h;
      reads = c.in_ok-made.ensures.reads;
      log = c.in_ok-made.ensures.log ∙ inv.log;
      opens = c.in_ok-made.ensures.opens ∙ inv.opens;
    }

pub returns-then-made-eq0-clause-dry : goal.returns-then-made-eq0-clause-dry
returns-then-made-eq0-clause-dry g c = λ same.
    let space = g.S.ObjectSpace.meaning in
    let code = g.M.Machine.code in
    let log = g.L.ReadLog.log c.args.replay.now.log in
    let w = world_of c.args.replay.now.world in
    let u = world_of c.loop-missing.replay.world in
    let v = world_of c.go_some.new.replay.world in
    let inv = c.loop-missing.invariant in
    let missing = c.loop-missing.missing in
    let some = c.loop-missing-test.true in
    let none = c.if-made-eq0.true in
    let few : c.in_ok-made.made < missing = omega (arith, some, none) in
    let whole = subst (λ r. RoundsGo space code (g.L.ReadLog.log r) c.in_ok-made.made u v) inv.log (c.in_ok-made.ensures.whole few) in
    let rest = subst (λ r. AllRest space code (g.L.ReadLog.log r) v) inv.log (c.in_ok-made.ensures.rest few none) in
    runs_dry space code g.met.M.Machine.laws log w c.args.steps missing u v inv.few some (inv.whole some) (subst (λ n. RoundsGo space code log n u v) none whole) rest
