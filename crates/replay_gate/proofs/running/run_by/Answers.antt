use Rattle.std.proofs.Common.{◌≡◌, suc, ◌+◌, ◌*◌, ◌<◌, ◌≤◌, false, length, get_or, refl, sym, ap, ◌∙◌, subst, add-one, arith}
use Rattle.std.specs.Prelude.{◌||◌}
use Rattle.event_core.specs.Threads.{all_steps}
use Rattle.event_core.specs.World.{world_of}
use Rattle.event_core.proofs.SoundSteps.{steps_most}
use Rattle.replay_laws.specs.Turns.{turn_of, world_after_turn}
use Rattle.replay_gate.proofs.Rounds.{thread_in_order, turn_grows, turn_keeps, least}
use Rattle.replay_gate.specs.Breaks.{NoneHits}
use Rattle.replay_gate.specs.Stops.{GoesOn, is_step, is_held, TurnTakes, TurnStopsAt, IsBehind}
use Rattle.replay_gate.specs.Free.{AreFree}
use Rattle.replay_gate.specs.Known.{AreKnown}
use Rattle.replay_gate.specs.BreakRounds.{IsInRound}
use Rattle.replay_gate.specs.Notes.{HasNoted, noted_at, note_of_turn, notes}
use Rattle.replay_gate.proofs.Noting.{noted_none, turn_noted, stop_noted}
use Rattle.replay_gate.proofs.BreakRoundsOn.{steps_taken, at_length, turn_on, in_turn, round_start, round_again, of_round, round_on, NotedRound, ends_so, sticks_so}
use Rattle.replay_gate.specs.LocalRounds.{RoundsLead}
use Rattle.replay_gate.proofs.FreeSteps.{all_none_free}
use Rattle.replay_gate.proofs.KnownTurns.{all_nothing}
use Rattle.replay_gate.proofs.RoundsOn.{steps_kept, rounds_on}
use Rattle.replay_gate.proofs.running.run_by.Goals as goal

pub loop-thread-init : goal.loop-thread-init
loop-thread-init g c =
    let start = world_of c.args.replay.now.world in
    record {
      behind = record { at = refl; goes_on = λ i l. absurd (omega (arith, l)); no_break = λ i l. absurd (omega (arith, l)) };
      free = subst (AreFree g.M.Machine.code (g.L.ReadLog.log c.args.replay.now.log) start c.args.breaks.now) (sym c.none-turns.ensures.free)
          (all_none_free g.M.Machine.code (g.L.ReadLog.log c.args.replay.now.log) c.args.breaks.now start 16);
      known = subst (AreKnown g.S.ObjectSpace.meaning g.M.Machine.code (g.L.ReadLog.log c.args.replay.now.log) start) (sym c.none-turns.ensures.all)
          (all_nothing g.S.ObjectSpace.meaning g.M.Machine.code (g.L.ReadLog.log c.args.replay.now.log) start 16);
      reads = c.requires;
      log = refl;
      opens = refl;
      noted = noted_none g.W.Watch.asked g.W.Watch.whole g.W.Watch.notes c.args.watch.now;
    }

pub returns-in-Err-clause-noted : goal.returns-in-Err-clause-noted
returns-in-Err-clause-noted g c =
    let space = g.S.ObjectSpace.meaning in
    let code = g.M.Machine.code in
    let log = g.L.ReadLog.log c.args.replay.now.log in
    let start = world_of c.args.replay.now.world in
    let w = world_of c.loop-thread.replay.world in
    let v = world_of c.turn_on.new.replay.world in
    let order = c.args.order.now in
    let breaks = c.args.breaks.now in
    let k = c.loop-thread.thread-index in
    let t = get_or order k 0 in
    let inv = c.loop-thread.invariant in
    stop_noted space code log start order g.W.Watch.asked g.W.Watch.whole g.W.Watch.notes g.W.Watch.note c.args.watch.now c.loop-thread.watch c.turn_on.new.watch k t w v breaks c.in-Err.stopped inv.behind.at
    (thread_in_order order (length start.threads) k 0 c.loop-thread-test.true) inv.noted
    (subst (λ r. TurnStopsAt space code (g.L.ReadLog.log r) w t breaks v c.in-Err.stopped) inv.log c.in-Err.ensures.stops)
    (subst (λ r. HasNoted g.W.Watch.asked g.W.Watch.whole g.W.Watch.notes c.loop-thread.watch c.turn_on.new.watch (noted_at c.in-Err.stopped (note_of_turn space code (g.W.Watch.note (g.W.Watch.asked c.loop-thread.watch)) (g.L.ReadLog.log r) w t))) inv.log c.in-Err.ensures.stopped)

pub returns-in-Err-clause-stops : goal.returns-in-Err-clause-stops
returns-in-Err-clause-stops g c =
    let space = g.S.ObjectSpace.meaning in
    let code = g.M.Machine.code in
    let log = g.L.ReadLog.log c.args.replay.now.log in
    let start = world_of c.args.replay.now.world in
    let w = world_of c.loop-thread.replay.world in
    let v = world_of c.turn_on.new.replay.world in
    let order = c.args.order.now in
    let breaks = c.args.breaks.now in
    let k = c.loop-thread.thread-index in
    let inv = c.loop-thread.invariant in
    in_turn space code log start order breaks k (get_or order k 0) w v c.in-Err.stopped inv.behind (thread_in_order order (length start.threads) k 0 c.loop-thread-test.true)
    (subst (λ r. TurnStopsAt space code (g.L.ReadLog.log r) w (get_or order k 0) breaks v c.in-Err.stopped) inv.log c.in-Err.ensures.stops)

pub loop-thread-preserved : goal.loop-thread-preserved
loop-thread-preserved g c =
    let space = g.S.ObjectSpace.meaning in
    let code = g.M.Machine.code in
    let log = g.L.ReadLog.log c.args.replay.now.log in
    let start = world_of c.args.replay.now.world in
    let w = world_of c.loop-thread.replay.world in
    let v = world_of c.turn_on.new.replay.world in
    let order = c.args.order.now in
    let breaks = c.args.breaks.now in
    let k = c.loop-thread.thread-index in
    let t = get_or order k 0 in
    let inv = c.loop-thread.invariant in
    let on = turn_on space code log start order breaks k t w v inv.behind (thread_in_order order (length start.threads) k 0 c.loop-thread-test.true)
    (subst (λ r. GoesOn (turn_of space code (g.L.ReadLog.log r) w t)) inv.log c.in-Ok.ensures.takes.on)
    (subst (λ r. NoneHits space code (g.L.ReadLog.log r) w t breaks) inv.log c.in-Ok.ensures.takes.none)
    (subst (λ r. v ≡ world_after_turn space code w t (turn_of space code (g.L.ReadLog.log r) w t)) inv.log c.in-Ok.ensures.takes.world) in
    record {
      free = subst (λ y. AreFree code (g.L.ReadLog.log y) v breaks c.turn_on.new.turns.free) inv.log c.in-Ok.ensures.free;
      known = subst (λ y. AreKnown space code (g.L.ReadLog.log y) v c.turn_on.new.turns.all) inv.log c.in-Ok.ensures.known;
      reads = c.turn_on.ensures.reads;
      behind = subst (λ j. IsBehind space code log start order breaks j v) (sym (add-one k)) on;
      noted = subst (λ j. HasNoted g.W.Watch.asked g.W.Watch.whole g.W.Watch.notes c.args.watch.now c.turn_on.new.watch (notes space code (g.W.Watch.note (g.W.Watch.asked c.args.watch.now)) log start order j)) (sym (add-one k))
          (turn_noted space code log start order g.W.Watch.asked g.W.Watch.whole g.W.Watch.notes g.W.Watch.note c.args.watch.now c.loop-thread.watch c.turn_on.new.watch k t w inv.behind.at
          (thread_in_order order (length start.threads) k 0 c.loop-thread-test.true) inv.noted
          (subst (λ r. HasNoted g.W.Watch.asked g.W.Watch.whole g.W.Watch.notes c.loop-thread.watch c.turn_on.new.watch (note_of_turn space code (g.W.Watch.note (g.W.Watch.asked c.loop-thread.watch)) (g.L.ReadLog.log r) w t)) inv.log c.in-Ok.ensures.noted));
      log = c.turn_on.ensures.log ∙ inv.log;
      opens = c.turn_on.ensures.opens ∙ inv.opens;
    }

pub loop-made-init : goal.loop-made-init
loop-made-init g c =
    let space = g.S.ObjectSpace.meaning in
    let code = g.M.Machine.code in
    let log = g.L.ReadLog.log c.args.replay.now.log in
    let start = world_of c.args.replay.now.world in
    let w = world_of c.loop-thread.replay.world in
    let order = c.args.order.now in
    let breaks = c.args.breaks.now in
    let inv = c.loop-thread.invariant in
    let end : c.loop-thread.thread-index ≡ length order = let a = c.loop-thread.auto.thread-index-end in let b = c.loop-thread-test.false in omega (arith, a, b) in
    record {
      round = (
        round_start space code log start order breaks w (subst (λ k. IsBehind space code log start order breaks k w) end inv.behind),
        subst (λ k. HasNoted g.W.Watch.asked g.W.Watch.whole g.W.Watch.notes c.args.watch.now c.loop-thread.watch (notes space code (g.W.Watch.note (g.W.Watch.asked c.args.watch.now)) log start order k))
            (let e : c.loop-thread.thread-index ≡ length order + (0 * length start.threads + 0) = omega (arith, end) in e) inv.noted,
      );
      count = c.count-count.ensures.count ∙ ap (λ x. length (world_of x).threads) c.world.ensures.same ∙ at_length space code log start order breaks c.loop-thread.thread-index w inv.behind;
      free = inv.free;
      known = inv.known;
      reads = inv.reads;
      log = inv.log;
      opens = inv.opens;
    }

pub returns-in-Err-turn_on-clause-stops : goal.returns-in-Err-turn_on-clause-stops
returns-in-Err-turn_on-clause-stops g c =
    let space = g.S.ObjectSpace.meaning in
    let code = g.M.Machine.code in
    let log = g.L.ReadLog.log c.args.replay.now.log in
    let start = world_of c.args.replay.now.world in
    let w = world_of c.loop-made.replay.world in
    let v = world_of c.turn_on-then-next-count-2.new.replay.world in
    let order = c.args.order.now in
    let breaks = c.args.breaks.now in
    let inv = c.loop-made.invariant in
    let r = inv.round.0 in
    let t = c.loop-made.next in
    let within : t < length start.threads = let l = c.if-next-count-2.true in let n = inv.count in omega (arith, l, n) in
    in_turn space code log start order breaks (length order + (r.rounds * length start.threads + t)) t w v c.in-Err-turn_on.stopped r.turn
    (of_round space code log start order breaks t c.loop-made.made c.loop-made.held w r within)
    (subst (λ x. TurnStopsAt space code (g.L.ReadLog.log x) w t breaks v c.in-Err-turn_on.stopped) inv.log c.in-Err-turn_on.ensures.stops)

pub returns-in-Err-turn_on-clause-noted : goal.returns-in-Err-turn_on-clause-noted
returns-in-Err-turn_on-clause-noted g c =
    let space = g.S.ObjectSpace.meaning in
    let code = g.M.Machine.code in
    let log = g.L.ReadLog.log c.args.replay.now.log in
    let start = world_of c.args.replay.now.world in
    let w = world_of c.loop-made.replay.world in
    let v = world_of c.turn_on-then-next-count-2.new.replay.world in
    let order = c.args.order.now in
    let breaks = c.args.breaks.now in
    let inv = c.loop-made.invariant in
    let r = inv.round.0 in
    let t = c.loop-made.next in
    let within : t < length start.threads = let l = c.if-next-count-2.true in let n = inv.count in omega (arith, l, n) in
    stop_noted space code log start order g.W.Watch.asked g.W.Watch.whole g.W.Watch.notes g.W.Watch.note c.args.watch.now c.loop-made.watch c.turn_on-then-next-count-2.new.watch
    (length order + (r.rounds * length start.threads + t)) t w v breaks c.in-Err-turn_on.stopped r.turn.at
    (of_round space code log start order breaks t c.loop-made.made c.loop-made.held w r within) inv.round.1
    (subst (λ x. TurnStopsAt space code (g.L.ReadLog.log x) w t breaks v c.in-Err-turn_on.stopped) inv.log c.in-Err-turn_on.ensures.stops)
    (subst (λ x. HasNoted g.W.Watch.asked g.W.Watch.whole g.W.Watch.notes c.loop-made.watch c.turn_on-then-next-count-2.new.watch (noted_at c.in-Err-turn_on.stopped (note_of_turn space code (g.W.Watch.note (g.W.Watch.asked c.loop-made.watch)) (g.L.ReadLog.log x) w t))) inv.log c.in-Err-turn_on.ensures.stopped)

pub loop-made-smaller-then-next-count-2 : goal.loop-made-smaller-then-next-count-2
loop-made-smaller-then-next-count-2 g c =
    let space = g.S.ObjectSpace.meaning in
    let code = g.M.Machine.code in
    let log = g.L.ReadLog.log c.loop-made.replay.log in
    let limits = g.met.L.ReadLog.limits c.loop-made.replay.log in
    let laws = g.met.S.ObjectSpace.laws in
    let rules' = g.met.M.Machine.laws in
    let w = world_of c.loop-made.replay.world in
    let v = world_of c.turn_on-then-next-count-2.new.replay.world in
    let t = c.loop-made.next in
    let is = c.is_step.ensures ∙ ap is_step c.in-Ok-turn_on.ensures.takes.taken ∙ steps_taken (turn_of space code log w t) in
    let after = c.in-Ok-turn_on.ensures.takes.world in
    rw c.either-made.ensures
    (least c.loop-made.made c.is_step.result c.count-count.result t (all_steps code w.threads) (all_steps code v.threads) c.if-next-count-2.true
    (steps_most space code v.threads v.memory c.turn_on-then-next-count-2.new.replay.world.sound)
    (λ h. turn_grows space code laws rules' log limits w v t c.loop-made.replay.world.sound (sym is ∙ h) after)
    (λ h. turn_keeps space code laws rules' log limits w v t (sym is ∙ h) after))

pub loop-made-preserved-then-next-count-2 : goal.loop-made-preserved-then-next-count-2
loop-made-preserved-then-next-count-2 g c =
    let space = g.S.ObjectSpace.meaning in
    let code = g.M.Machine.code in
    let log = g.L.ReadLog.log c.args.replay.now.log in
    let start = world_of c.args.replay.now.world in
    let w = world_of c.loop-made.replay.world in
    let v = world_of c.turn_on-then-next-count-2.new.replay.world in
    let order = c.args.order.now in
    let breaks = c.args.breaks.now in
    let inv = c.loop-made.invariant in
    let made = c.loop-made.made in
    let held = c.loop-made.held in
    let x = c.in-Ok-turn_on.taken in
    let t = c.loop-made.next in
    let within : t < length start.threads = let l = c.if-next-count-2.true in let n = inv.count in omega (arith, l, n) in
    let takes = subst (λ y. TurnTakes space code (g.L.ReadLog.log y) w t breaks v x) inv.log c.in-Ok-turn_on.ensures.takes in
    let r = round_on space code log start order breaks t made held x w v inv.round.0 within takes.on takes.none takes.taken takes.world in
    let k = length order + (inv.round.0.rounds * length start.threads + t) in
    let new = c.turn_on-then-next-count-2.new.watch in
    let noted = turn_noted space code log start order g.W.Watch.asked g.W.Watch.whole g.W.Watch.notes g.W.Watch.note c.args.watch.now c.loop-made.watch new k t w inv.round.0.turn.at
    (of_round space code log start order breaks t made held w inv.round.0 within) inv.round.1
    (subst (λ y. HasNoted g.W.Watch.asked g.W.Watch.whole g.W.Watch.notes c.loop-made.watch new (note_of_turn space code (g.W.Watch.note (g.W.Watch.asked c.loop-made.watch)) (g.L.ReadLog.log y) w t)) inv.log c.in-Ok-turn_on.ensures.noted) in
    let next : suc k ≡ length order + (inv.round.0.rounds * length start.threads + (t + 1)) = omega arith in
    let N = HasNoted g.W.Watch.asked g.W.Watch.whole g.W.Watch.notes c.args.watch.now new in
    let note = g.W.Watch.note (g.W.Watch.asked c.args.watch.now) in
    let both : NotedRound space code log start order breaks note N (t + 1) (made || is_step x) (held || is_held x) v = (r, subst (λ i. N (notes space code note log start order i)) next noted) in
    let steps = c.either-made.ensures ∙ ap (λ b. made || b) c.is_step.ensures in
    let holds = c.either-held.ensures ∙ ap (λ b. held || b) c.is_held.ensures in
    record {
      round = subst (λ b. NotedRound space code log start order breaks note N (t + 1) b c.either-held.result v) (sym steps)
          (subst (λ b. NotedRound space code log start order breaks note N (t + 1) (made || is_step x) b v) (sym holds) both);
      count = inv.count;
      reads = c.turn_on-then-next-count-2.ensures.reads;
      log = c.turn_on-then-next-count-2.ensures.log ∙ inv.log;
      opens = c.turn_on-then-next-count-2.ensures.opens ∙ inv.opens;
      free = subst (λ y. AreFree code (g.L.ReadLog.log y) v breaks c.turn_on-then-next-count-2.new.turns.free) inv.log c.in-Ok-turn_on.ensures.free;
      known = subst (λ y. AreKnown space code (g.L.ReadLog.log y) v c.turn_on-then-next-count-2.new.turns.all) inv.log c.in-Ok-turn_on.ensures.known;
    }

pub loop-made-smaller : goal.loop-made-smaller
loop-made-smaller g c =
    let code = g.M.Machine.code in
    let w = world_of c.loop-made.replay.world in
    let v = world_of c.go_ahead-pace.new.replay.world in
    let ahead = c.go_ahead-pace.ensures.ahead in
    let grows = steps_kept g.S.ObjectSpace.meaning code g.met.M.Machine.laws (g.L.ReadLog.log c.loop-made.replay.log) ahead.rounds w v ahead.leads in
    let few = c.count-count.ensures.few in let past = c.if-next-count-2.false in grind (arith, grows, few, past)

pub loop-made-preserved : goal.loop-made-preserved
loop-made-preserved g c =
    let space = g.S.ObjectSpace.meaning in
    let code = g.M.Machine.code in
    let log = g.L.ReadLog.log c.args.replay.now.log in
    let start = world_of c.args.replay.now.world in
    let w = world_of c.loop-made.replay.world in
    let v = world_of c.go_ahead-pace.new.replay.world in
    let order = c.args.order.now in
    let breaks = c.args.breaks.now in
    let inv = c.loop-made.invariant in
    let past : length start.threads ≤ c.loop-made.next = let l = c.if-next-count-2.false in let n = inv.count in omega (arith, l, n) in
    let ahead = c.go_ahead-pace.ensures.ahead in
    let r = inv.round.0 in
    let n = length start.threads in
    let note = g.W.Watch.note (g.W.Watch.asked c.args.watch.now) in
    let N = HasNoted g.W.Watch.asked g.W.Watch.whole g.W.Watch.notes c.args.watch.now c.loop-made.watch in
    let same : c.loop-made.next ≡ n = let l = r.within in omega (arith, l, past) in
    let next : length order + (r.rounds * n + c.loop-made.next) ≡ length order + (suc r.rounds * n + 0) = let d : suc r.rounds * n ≡ r.rounds * n + n = grind arith in omega (arith, d, same) in
    let begun : NotedRound space code log start order breaks note N 0 false false w = (
      round_again space code log start order breaks c.loop-made.next c.loop-made.made c.loop-made.held w past r,
      subst (λ i. N (notes space code note log start order i)) next inv.round.1,
    ) in
    record {
      round = rounds_on space code g.met.M.Machine.laws log start order breaks note N ahead.rounds w v
          (subst (λ r. RoundsLead space code (g.L.ReadLog.log r) ahead.rounds w v) inv.log ahead.leads) ahead.clear begun;
      count = inv.count;
      reads = subst (λ y. g.L.ReadLog.reads y c.loop-made.reader) (sym c.go_ahead-pace.ensures.log) inv.reads;
      free = subst (λ y. AreFree code (g.L.ReadLog.log y) v breaks c.go_ahead-pace.new.turns.free) inv.log c.go_ahead-pace.ensures.free;
      known = subst (λ y. AreKnown space code (g.L.ReadLog.log y) v c.go_ahead-pace.new.turns.all) inv.log c.go_ahead-pace.ensures.known;
      log = c.go_ahead-pace.ensures.log ∙ inv.log;
      opens = c.go_ahead-pace.ensures.opens ∙ inv.opens;
    }

pub returns-then-held-clause-stops : goal.returns-then-held-clause-stops
returns-then-held-clause-stops g c =
    let space = g.S.ObjectSpace.meaning in
    let code = g.M.Machine.code in
    let log = g.L.ReadLog.log c.args.replay.now.log in
    let start = world_of c.args.replay.now.world in
    let w = world_of c.loop-made.replay.world in
    let inv = c.loop-made.invariant in
    let t = c.loop-made.next in
    let past : length start.threads ≤ t = let l = c.if-next-count.false in let n = inv.count in omega (arith, l, n) in
    let r = subst (λ b. IsInRound space code log start c.args.order.now c.args.breaks.now t b c.loop-made.held w) c.if-made.false inv.round.0 in
    sticks_so space code log start c.args.order.now c.args.breaks.now t w past (subst (λ b. IsInRound space code log start c.args.order.now c.args.breaks.now t false b w) c.if-held.true r)

pub returns-else-held-clause-stops : goal.returns-else-held-clause-stops
returns-else-held-clause-stops g c =
    let space = g.S.ObjectSpace.meaning in
    let code = g.M.Machine.code in
    let log = g.L.ReadLog.log c.args.replay.now.log in
    let start = world_of c.args.replay.now.world in
    let w = world_of c.loop-made.replay.world in
    let inv = c.loop-made.invariant in
    let t = c.loop-made.next in
    let past : length start.threads ≤ t = let l = c.if-next-count.false in let n = inv.count in omega (arith, l, n) in
    let r = subst (λ b. IsInRound space code log start c.args.order.now c.args.breaks.now t b c.loop-made.held w) c.if-made.false inv.round.0 in
    ends_so space code log start c.args.order.now c.args.breaks.now t w past (subst (λ b. IsInRound space code log start c.args.order.now c.args.breaks.now t false b w) c.if-held.false r)

pub returns-then-held-clause-noted : goal.returns-then-held-clause-noted
returns-then-held-clause-noted g c =
    let r = c.loop-made.invariant.round in
    record { turns = length c.args.order.now + (r.0.rounds * length (world_of c.args.replay.now.world).threads + c.loop-made.next); at = r.0.turn.at; has = r.1 }

pub returns-else-held-clause-noted : goal.returns-else-held-clause-noted
returns-else-held-clause-noted g c =
    let r = c.loop-made.invariant.round in
    record { turns = length c.args.order.now + (r.0.rounds * length (world_of c.args.replay.now.world).threads + c.loop-made.next); at = r.0.turn.at; has = r.1 }
