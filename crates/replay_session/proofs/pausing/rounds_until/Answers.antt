use Rattle.std.proofs.Common.{◌<◌, ◌≤◌, length, refl, ap, ◌∙◌, subst, arith}
use Rattle.std.specs.Prelude.{◌||◌}
use Rattle.event_core.specs.World.{world_of}
use Rattle.replay_gate.specs.Stops.{TurnTakes}
use Rattle.replay_session.specs.Meets.{Untested}
use Rattle.replay_session.specs.Pauses.{TurnPausesAt}
use Rattle.replay_session.proofs.PausedRounds.{less_left, begins, begins_again, goes_on, in_turn, finishes, sticks}
use Rattle.replay_session.proofs.pausing.rounds_until.Goals as goal

pub loop-made-init : goal.loop-made-init
loop-made-init g c =
    let few = c.count-count.ensures.few in
    record {
      round = begins;
      count = c.count-count.ensures.count ∙ ap (λ x. length (world_of x).threads) c.world.ensures.same;
      most = omega (arith, few);
      reads = c.reader-reader.ensures;
      log = refl;
      opens = refl;
    }

pub returns-in-Err-clause-pauses : goal.returns-in-Err-clause-pauses
returns-in-Err-clause-pauses g c =
    let inv = c.loop-made.invariant in
    let w = world_of c.loop-made.replay.world in
    let v = world_of c.turn_until.new.replay.world in
    let within : c.loop-made.next < length (world_of c.args.replay.now.world).threads = let l = c.if-next-count-2.true in let n = inv.count in omega (arith, l, n) in
    in_turn inv.round within v c.in-Err.paused
    (subst (λ r. TurnPausesAt g.S.ObjectSpace.meaning g.M.Machine.code (g.L.ReadLog.log r) c.args.breaks.now (g.T.Test.holds c.args.test.now) w c.loop-made.next v c.in-Err.paused) inv.log c.in-Err.ensures.pauses)

pub loop-made-preserved-in-Ok : goal.loop-made-preserved-in-Ok
loop-made-preserved-in-Ok g c =
    let space = g.S.ObjectSpace.meaning in
    let code = g.M.Machine.code in
    let inv = c.loop-made.invariant in
    let w = world_of c.loop-made.replay.world in
    let v = world_of c.turn_until.new.replay.world in
    let t = c.loop-made.next in
    let within : t < length (world_of c.args.replay.now.world).threads = let l = c.if-next-count-2.true in let n = inv.count in omega (arith, l, n) in
    let takes = subst (λ r. TurnTakes space code (g.L.ReadLog.log r) w t c.args.breaks.now v c.in-Ok.taken) inv.log c.in-Ok.ensures.takes in
    let none = subst (λ r. Untested space code (g.L.ReadLog.log r) (g.T.Test.holds c.args.test.now) w t) inv.log c.in-Ok.ensures.untested in
    record {
      round = goes_on _ _ c.in-Ok.taken v inv.round within takes none (ap (λ b. c.loop-made.made || b) c.is_step-made.ensures) (ap (λ b. c.loop-made.held || b) c.is_held-held.ensures);
      count = inv.count;
      most = inv.most;
      reads = c.turn_until.ensures.reads;
      log = c.turn_until.ensures.log ∙ inv.log;
      opens = c.turn_until.ensures.opens ∙ inv.opens;
    }

pub loop-made-smaller-in-Ok : goal.loop-made-smaller-in-Ok
loop-made-smaller-in-Ok g c =
    less_left g.met.S.ObjectSpace.laws g.met.M.Machine.laws (g.met.L.ReadLog.limits c.loop-made.replay.log) c.loop-made.made _ c.count-count.result c.loop-made.next (world_of c.loop-made.replay.world) (world_of c.turn_until.new.replay.world) c.in-Ok.taken
    c.if-next-count-2.true c.loop-made.replay.world.sound c.turn_until.new.replay.world.sound c.in-Ok.ensures.takes (ap (λ b. c.loop-made.made || b) c.is_step-made.ensures)

pub loop-made-preserved : goal.loop-made-preserved
loop-made-preserved g c =
    let inv = c.loop-made.invariant in
    let past : length (world_of c.args.replay.now.world).threads ≤ c.loop-made.next = let l = c.if-next-count-2.false in let n = inv.count in omega (arith, l, n) in
    record {
      round = begins_again inv.round past;
      count = inv.count;
      most = inv.most;
      reads = inv.reads;
      log = inv.log;
      opens = inv.opens;
    }

pub returns-then-held-clause-pauses : goal.returns-then-held-clause-pauses
returns-then-held-clause-pauses g c =
    let inv = c.loop-made.invariant in
    let past : length (world_of c.args.replay.now.world).threads ≤ c.loop-made.next = let l = c.if-next-count.false in let n = inv.count in omega (arith, l, n) in
    sticks inv.round past c.if-made.false c.if-held.true

pub returns-clause-pauses : goal.returns-clause-pauses
returns-clause-pauses g c =
    let inv = c.loop-made.invariant in
    let past : length (world_of c.args.replay.now.world).threads ≤ c.loop-made.next = let l = c.if-next-count.false in let n = inv.count in omega (arith, l, n) in
    finishes inv.round past c.if-made.false c.if-held.false
