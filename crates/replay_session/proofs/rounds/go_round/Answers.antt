use Rattle.std.proofs.Common.{◌≡◌, [], length, ap, ◌∙◌, subst, arith}
use Rattle.event_core.specs.World.{world_of}
use Rattle.replay_laws.specs.Ordered.{ordered_world}
use Rattle.replay_gate.proofs.Rounds.{ordered_length}
use Rattle.replay_session.specs.Gone.{TurnPasses}
use Rattle.replay_session.proofs.RoundTurns.{next_point, one_round, turn_made, few_so, still_rests}
use Rattle.replay_session.proofs.rounds.go_round.Goals as goal

pub loop-thread-preserved : goal.loop-thread-preserved
loop-thread-preserved g c =
    let space = g.S.ObjectSpace.meaning in
    let code = g.M.Machine.code in
    let laws = g.met.M.Machine.laws in
    let log = g.L.ReadLog.log c.args.replay.now.log in
    let limits = g.met.L.ReadLog.limits c.args.replay.now.log in
    let w = world_of c.args.replay.now.world in
    let u = world_of c.loop-thread.replay.world in
    let v = world_of c.pass_turn.new.replay.world in
    let k = c.loop-thread.thread in
    let inv = c.loop-thread.invariant in
    let p = subst (λ r. TurnPasses space code (g.L.ReadLog.log r) k u v c.in_ok-made.field-0) inv.log c.in_ok-made.ensures.passes in
    let few = few_so space code laws log w k c.in_ok-made.field-0 u v p in
    let below = c.if-made-most.false in
    let l = c.loop-thread-test.true in
    let all = inv.all in
    let each = inv.each in
    record {
      at = next_point space code laws log w k u v (omega (arith, l, all)) inv.at p.1;
      made = turn_made space code laws log w g.met.S.ObjectSpace.laws limits k c.loop-thread.made c.in_ok-made.field-0 u v p inv.made;
      few = omega (arith, few, below);
      each = omega (arith, few, each);
      rest = still_rests space code laws log w k c.loop-thread.made c.in_ok-made.field-0 u v p inv.rest;
      all = inv.all;
      reads = c.pass_turn.ensures.reads;
      log = c.pass_turn.ensures.log ∙ inv.log;
      opens = c.pass_turn.ensures.opens ∙ inv.opens;
    }

pub returns-clause-whole : goal.returns-clause-whole
returns-clause-whole g c = λ l.
    let space = g.S.ObjectSpace.meaning in
    let code = g.M.Machine.code in
    let log = g.L.ReadLog.log c.args.replay.now.log in
    let w = world_of c.args.replay.now.world in
    let inv = c.loop-thread.invariant in
    let a = c.loop-thread.auto.thread-end in
    let b = c.loop-thread-test.false in
    let n = inv.all in
    let end : c.loop-thread.thread ≡ length w.threads = omega (arith, a, b, n) in
    one_round space code g.met.M.Machine.laws log w c.loop-thread.made (world_of c.loop-thread.replay.world) (subst (λ k. world_of c.loop-thread.replay.world ≡ ordered_world space code log w [] k) end inv.at) inv.made

pub returns-clause-rest : goal.returns-clause-rest
returns-clause-rest g c = λ l none t within.
    let space = g.S.ObjectSpace.meaning in
    let code = g.M.Machine.code in
    let log = g.L.ReadLog.log c.args.replay.now.log in
    let w = world_of c.args.replay.now.world in
    let v = world_of c.loop-thread.replay.world in
    let inv = c.loop-thread.invariant in
    let b = c.loop-thread-test.false in
    let n = inv.all in
    let m : length v.threads ≡ length w.threads = ap (λ x. length x.threads) inv.at ∙ ordered_length space code log w [] c.loop-thread.thread in
    inv.rest none t (omega (arith, within, m, n, b))
