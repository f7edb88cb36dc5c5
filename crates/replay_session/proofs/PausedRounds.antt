-- Rounds up to a break or a test, turn by turn.
use Rattle.std.proofs.Common.{◌≡◌, ℕ, suc, ◌+◌, ◌-◌, ◌*◌, ◌<◌, ◌≤◌, Bool, true, false, cond, List, [], length, Option, refl, sym, ap, ◌∙◌, subst, arith}
use Rattle.std.specs.Prelude.{◌||◌}
use Rattle.rw_objects.specs.Space.{Space, SpaceLaws}
use Rattle.rw_objects.specs.Code.{Code, CodeLaws}
use Rattle.event_core.specs.Sound.{IsSound}
use Rattle.event_core.specs.Threads.{all_steps}
use Rattle.event_core.specs.World.{WorldAt}
use Rattle.event_core.proofs.SoundSteps.{steps_most}
use Rattle.replay_laws.specs.Log.{Log, HasLimits}
use Rattle.replay_laws.specs.Ordered.{thread_of_turn, ordered_world}
use Rattle.replay_laws.specs.Turns.{turn_of}
use Rattle.replay_gate.proofs.Rounds.{turn_grows, turn_keeps}
use Rattle.replay_gate.specs.declared.breaks.Break.{Break}
use Rattle.replay_gate.specs.declared.running.Taken.{Taken}
use Rattle.replay_gate.specs.BreakRounds.{IsInRound}
use Rattle.replay_gate.specs.Stops.{is_step, is_held, TurnTakes}
use Rattle.replay_gate.proofs.BreakRoundsOn.{steps_taken, below_next, at_start, turns_in, round_start, round_again, round_on, of_round, ends_so, sticks_so}
use Rattle.replay_session.specs.declared.paused.Paused.{Paused}
use Rattle.replay_session.specs.declared.paused.Paused.TheVariants as paused
use Rattle.replay_session.specs.Meets.{Untested}
use Rattle.replay_session.specs.Pauses.{TurnPausesAt, NoneTested, PausesInTurn, RunsOutUntested, PausesAt}

-- what is left falls by a turn
falls : (made step : Bool) (count next old new : ℕ) → next < count → new ≤ 16000000000 → new ≡ old + cond step 1 0
    → 34 * (16000000000 - new) + cond (made || step) 17 0 + (count - (next + 1)) < 34 * (16000000000 - old) + cond made 17 0 + (count - next)
falls true true count next old new l most grows = omega (arith, l, most, grows)
falls true false count next old new l most grows = omega (arith, l, most, grows)
falls false true count next old new l most grows = omega (arith, l, most, grows)
falls false false count next old new l most grows = omega (arith, l, most, grows)

module _ {State Op Reply Value Fixed : Type 0} {space : Space Op Reply Value Fixed} {code : Code State Op Reply Fixed} {log : Log} {breaks : List Break} (laws : SpaceLaws space) (rules : CodeLaws space code) (limits : HasLimits log) where
  -- a turn counts where it makes a step
  turn_counts : (w v : WorldAt State Value Fixed) (t : ℕ) (a : Taken) → IsSound code w.threads w.memory → TurnTakes space code log w t breaks v a → all_steps code v.threads ≡ all_steps code w.threads + cond (is_step a) 1 0
  turn_counts w v t a sound h =
      let made = sym (steps_taken (turn_of space code log w t)) ∙ ap is_step (sym h.taken) in
      elim (is_step a) as (λ b. is_step a ≡ b → all_steps code v.threads ≡ all_steps code w.threads + cond b 1 0) [
        | true ↦ λ on. turn_grows space code laws rules log limits w v t sound (made ∙ on) h.world
        | false ↦ λ idle. let keeps = turn_keeps space code laws rules log limits w v t (made ∙ idle) h.world in omega (arith, keeps)
      ] refl

  pub less_left : (made made' : Bool) (count t : ℕ) (w v : WorldAt State Value Fixed) (a : Taken) → t < count → IsSound code w.threads w.memory → IsSound code v.threads v.memory → TurnTakes space code log w t breaks v a → made' ≡ (made || is_step a)
      → 34 * (16000000000 - all_steps code v.threads) + cond made' 17 0 + (count - (t + 1)) < 34 * (16000000000 - all_steps code w.threads) + cond made 17 0 + (count - t)
  less_left made made' count t w v a below sound after h is =
      subst (λ b. 34 * (16000000000 - all_steps code v.threads) + cond b 17 0 + (count - (t + 1)) < 34 * (16000000000 - all_steps code w.threads) + cond made 17 0 + (count - t)) (sym is)
      (falls made (is_step a) count t (all_steps code w.threads) (all_steps code v.threads) below (steps_most space code v.threads v.memory after) (turn_counts w v t a sound h))

module _ {State Op Reply Value Fixed : Type 0} (space : Space Op Reply Value Fixed) (code : Code State Op Reply Fixed) (log : Log) (breaks : List Break) (holds : WorldAt State Value Fixed → ℕ → Option ℕ) (start : WorldAt State Value Fixed) where
  -- a place in a round, up to which the test held behind no turn
  pub record InRound (t : ℕ) (made held : Bool) (w : WorldAt State Value Fixed) : Type 0 where
    pub round : IsInRound space code log start [] breaks t made held w
    pub untested : NoneTested space code log breaks holds start (turns_in space code log start [] breaks t made held w round)

module _ {State Op Reply Value Fixed : Type 0} {space : Space Op Reply Value Fixed} {code : Code State Op Reply Fixed} {log : Log} {breaks : List Break} {holds : WorldAt State Value Fixed → ℕ → Option ℕ} {start : WorldAt State Value Fixed} where
  pub begins : InRound space code log breaks holds start 0 false false start
  begins = record { round = round_start space code log start [] breaks start (at_start space code log start [] breaks); untested = λ i l. absurd (omega (arith, l)) }

  pub begins_again : {t : ℕ} {made held : Bool} {w : WorldAt State Value Fixed} → InRound space code log breaks holds start t made held w → length start.threads ≤ t → InRound space code log breaks holds start 0 false false w
  begins_again {t} {made} {held} {w} p past =
      let n = length start.threads in
      let r = p.round in
      let same : t ≡ n = let l = r.within in omega (arith, l, past) in
      let e : r.rounds * n + t ≡ suc r.rounds * n + 0 = let d : suc r.rounds * n ≡ r.rounds * n + n = grind arith in omega (arith, d, same) in
      record { round = round_again space code log start [] breaks t made held w past r; untested = subst (NoneTested space code log breaks holds start) (ap (λ k. 0 + k) e) p.untested }

  -- one turn more, behind which nothing holds
  pub goes_on : {t : ℕ} {made held : Bool} {w : WorldAt State Value Fixed} (made' held' : Bool) (x : Taken) (v : WorldAt State Value Fixed) → InRound space code log breaks holds start t made held w → t < length start.threads → TurnTakes space code log w t breaks v x → Untested space code log holds w t
      → made' ≡ (made || is_step x) → held' ≡ (held || is_held x) → InRound space code log breaks holds start (t + 1) made' held' v
  goes_on {t} {made} {held} {w} made' held' x v p l takes none is_made still_held =
      let n = length start.threads in
      let r = p.round in
      let k = 0 + (r.rounds * n + t) in
      let of = of_round space code log start [] breaks t made held w r l in
      let here : Untested space code log holds (ordered_world space code log start [] k) (thread_of_turn [] n k) =
      subst (λ y. Untested space code log holds y (thread_of_turn [] n k)) r.turn.at (subst (Untested space code log holds w) (sym of) none) in
      let more : NoneTested space code log breaks holds start (suc k) = λ i m. below_next (λ j. Untested space code log holds (ordered_world space code log start [] j) (thread_of_turn [] n j)) i k m p.untested here in
      let e : suc k ≡ 0 + (r.rounds * n + (t + 1)) = omega arith in
      let on : InRound space code log breaks holds start (t + 1) (made || is_step x) (held || is_held x) v = record { round = round_on space code log start [] breaks t made held x w v r l takes.on takes.none takes.taken takes.world; untested = subst (NoneTested space code log breaks holds start) e more } in
      subst (λ b. InRound space code log breaks holds start (t + 1) b held' v) (sym is_made) (subst (λ b. InRound space code log breaks holds start (t + 1) (made || is_step x) b v) (sym still_held) on)

  -- the next turn pauses the rounds
  module _ {t : ℕ} {made held : Bool} {w : WorldAt State Value Fixed} (r : InRound space code log breaks holds start t made held w) (l : t < length start.threads) where
    in_this_turn : (v : WorldAt State Value Fixed) (p : Paused) → TurnPausesAt space code log breaks holds w t v p → PausesInTurn space code log breaks holds start v p
    in_this_turn v p h = record {
      turns = 0 + (r.round.rounds * length start.threads + t);
      world = w;
      behind = r.round.turn;
      untested = r.untested;
      pauses = subst (λ x. TurnPausesAt space code log breaks holds w x v p) (sym (of_round space code log start [] breaks t made held w r.round l)) h;
    }

    pub in_turn : (v : WorldAt State Value Fixed) (p : Paused) → TurnPausesAt space code log breaks holds w t v p → PausesAt space code log breaks holds start v p
    in_turn v (paused.Met m) h = in_this_turn v (paused.Met m) h
    in_turn v paused.Finished h = absurd h
    in_turn v paused.Stuck h = absurd h
    in_turn v (paused.Fault f) h = in_this_turn v (paused.Fault f) h

  -- behind a whole round without a step
  runs_out : {t : ℕ} {held : Bool} {w : WorldAt State Value Fixed} → InRound space code log breaks holds start t false held w → length start.threads ≤ t → RunsOutUntested space code log breaks holds start w
  runs_out {t} {held} {w} p past = record {
    out = record {
      turns = 0 + (p.round.rounds * length start.threads + t);
      all_of_order = omega arith;
      behind = p.round.turn;
      still = λ i l. p.round.still refl i (omega (arith, l, past));
      shut = λ i l. p.round.shut refl i (omega (arith, l, past));
    };
    untested = p.untested;
  }

  pub finishes : {t : ℕ} {made held : Bool} {w : WorldAt State Value Fixed} → InRound space code log breaks holds start t made held w → length start.threads ≤ t → made ≡ false → held ≡ false → PausesAt space code log breaks holds start w paused.Finished
  finishes {t} {made} {held} {w} p past idle free =
      let r = subst (λ b. InRound space code log breaks holds start t b false w) idle (subst (λ b. InRound space code log breaks holds start t made b w) free p) in
      (runs_out r past, (ends_so space code log start [] breaks t w past r.round).1)

  pub sticks : {t : ℕ} {made held : Bool} {w : WorldAt State Value Fixed} → InRound space code log breaks holds start t made held w → length start.threads ≤ t → made ≡ false → held ≡ true → PausesAt space code log breaks holds start w paused.Stuck
  sticks {t} {made} {held} {w} p past idle waits =
      let r = subst (λ b. InRound space code log breaks holds start t b true w) idle (subst (λ b. InRound space code log breaks holds start t made b w) waits p) in
      (runs_out r past, (sticks_so space code log start [] breaks t w past r.round).1)
