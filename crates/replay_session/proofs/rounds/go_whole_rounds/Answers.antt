use Rattle.std.proofs.Common.{◌-◌, ◌<◌, length, refl, ap, ◌∙◌, subst, arith}
use Rattle.event_core.specs.World.{world_of}
use Rattle.replay_session.specs.Rounds.{RoundsGo}
use Rattle.replay_session.proofs.RoundTurns.{no_rounds, rounds_on}
use Rattle.replay_session.proofs.rounds.go_whole_rounds.Goals as goal

pub loop-made-init : goal.loop-made-init
loop-made-init g c = record {
  few = omega arith;
  rounds = no_rounds g.S.ObjectSpace.meaning g.M.Machine.code g.met.M.Machine.laws (g.L.ReadLog.log c.args.replay.now.log) (world_of c.args.replay.now.world);
  count = c.count-count.ensures.count ∙ ap (λ x. length (world_of x).threads) c.world.ensures.same;
  reads = c.reader-reader.ensures;
  log = refl;
  opens = refl;
}

pub loop-made-preserved : goal.loop-made-preserved
loop-made-preserved g c =
    let space = g.S.ObjectSpace.meaning in
    let code = g.M.Machine.code in
    let u = world_of c.loop-made.replay.world in
    let v = world_of c.go_some.new.replay.world in
    let inv = c.loop-made.invariant in
    let most = c.args.most - c.loop-made.made in
    let more = c.in_ok-more.more in
    let gone = c.in_ok-more.ensures in
    let on = subst (λ r. length u.threads < most → RoundsGo space code (g.L.ReadLog.log r) more u v) inv.log gone.rounds in
    let below = gone.few in
    let few = inv.few in
    record {
      few = omega (arith, below, few);
      rounds = rounds_on space code g.met.M.Machine.laws (g.L.ReadLog.log c.args.replay.now.log) (world_of c.args.replay.now.world) c.loop-made.made more _ c.count-count.result most u v inv.count c.loop-made-test.true inv.rounds on refl;
      count = inv.count;
      reads = gone.reads;
      log = gone.log ∙ inv.log;
      opens = gone.opens ∙ inv.opens;
    }

pub returns-then-more-eq0-clause-rounds : goal.returns-then-more-eq0-clause-rounds
returns-then-more-eq0-clause-rounds g c =
    let space = g.S.ObjectSpace.meaning in
    let code = g.M.Machine.code in
    let u = world_of c.loop-made.replay.world in
    let v = world_of c.go_some.new.replay.world in
    let inv = c.loop-made.invariant in
    let most = c.args.most - c.loop-made.made in
    let more = c.in_ok-more.more in
    let on = subst (λ r. length u.threads < most → RoundsGo space code (g.L.ReadLog.log r) more u v) inv.log c.in_ok-more.ensures.rounds in
    let none = c.if-more-eq0.true in
    rounds_on space code g.met.M.Machine.laws (g.L.ReadLog.log c.args.replay.now.log) (world_of c.args.replay.now.world) c.loop-made.made more c.loop-made.made c.count-count.result most u v inv.count c.loop-made-test.true inv.rounds on (omega (arith, none))
