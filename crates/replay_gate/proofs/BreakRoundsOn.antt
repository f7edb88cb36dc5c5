-- The replay up to a break, turn by turn.
use Rattle.std.proofs.Common.{◌≡◌, ℕ, suc, ◌+◌, ◌*◌, ◌<◌, ◌≤◌, Bool, true, false, List, length, refl, sym, ap, ◌∙◌, subst, arith, inl, inr}
use Rattle.std.specs.Prelude.{◌||◌}
use Rattle.std.proofs.lemmas.Bool.{cases_lt, or_parts, or_cases}
use Rattle.std.proofs.lemmas.Option.{slice_get_within}
use Rattle.rw_objects.specs.Space.{Space}
use Rattle.rw_objects.specs.Code.{Code}
use Rattle.event_core.specs.World.{WorldAt}
use Rattle.replay_laws.specs.declared.turn.Turn.{Turn}
use Rattle.replay_laws.specs.declared.turn.Turn.TheVariants as turn
use Rattle.replay_laws.specs.Log.{Log}
use Rattle.replay_laws.specs.Turns.{turn_of, world_after_turn}
use Rattle.replay_laws.specs.Ordered.{thread_of_turn, ordered_world}
use Rattle.replay_laws.proofs.Finishing.{thread_there}
use Rattle.replay_gate.specs.Answers.{makes_step}
use Rattle.replay_gate.proofs.Rounds.{ordered_length}
use Rattle.replay_gate.specs.declared.breaks.Break.{Break}
use Rattle.replay_gate.specs.declared.breaks.Stopped.{Stopped}
use Rattle.replay_gate.specs.declared.breaks.Stopped.TheVariants as stopped
use Rattle.replay_gate.specs.declared.running.Taken.{Taken}
use Rattle.replay_gate.specs.Breaks.{NoneHits}
use Rattle.replay_gate.specs.Stops.{GoesOn, taken_of, is_step, is_held, TurnStopsAt, IsBehind, RunsOut, StopsAt}
use Rattle.replay_gate.specs.Notes.{notes}
use Rattle.replay_gate.specs.BreakRounds.{IsHeld, IsInRound}
use Rattle.replay_gate.proofs.Ending.{done_stands, finished_done}

pub below_next : (P : ℕ → Type 0) (t n : ℕ) → t < suc n → ((i : ℕ) → i < n → P i) → P n → P t
below_next P t n l below here = elim (cases_lt t n) [ inl m ↦ below t m | inr m ↦ subst P (let e : n ≡ t = omega (arith, l, m) in e) here ]

pub steps_taken : (x : Turn) → is_step (taken_of x) ≡ makes_step x
steps_taken turn.Done = refl
steps_taken turn.Local = refl
steps_taken (turn.Event input) = refl
steps_taken (turn.Refused r) = refl

-- a turn that makes no step and is not held is done
pub done_taken : (x : Turn) → is_step (taken_of x) ≡ false → is_held (taken_of x) ≡ false → x ≡ turn.Done
done_taken turn.Done s h = refl
done_taken turn.Local s h = absurd cc
done_taken (turn.Event input) s h = absurd cc
done_taken (turn.Refused r) s h = absurd cc

pub held_taken : (x : Turn) → is_held (taken_of x) ≡ true → x ≡ turn.Done → ⊥
held_taken turn.Done h e = cc
held_taken turn.Local h e = cc
held_taken (turn.Event input) h e = cc
held_taken (turn.Refused r) h e = cc

module _ {State Op Reply Value Fixed : Type 0} (space : Space Op Reply Value Fixed) (code : Code State Op Reply Fixed) where
  pub stays : (w : WorldAt State Value Fixed) (t : ℕ) (x : Turn) → makes_step x ≡ false → world_after_turn space code w t x ≡ w
  stays w t turn.Done h = refl
  stays w t turn.Local h = absurd cc
  stays w t (turn.Event input) h = absurd cc
  stays w t (turn.Refused r) h = refl

  -- no break holds behind a turn that makes no step
  pub none_hits : (log : Log) (w : WorldAt State Value Fixed) (t : ℕ) (breaks : List Break) → makes_step (turn_of space code log w t) ≡ false → NoneHits space code log w t breaks
  none_hits log w t breaks still j b is h = let s = h.step in cc

  module _ (log : Log) (start : WorldAt State Value Fixed) (order : List ℕ) (breaks : List Break) where
    pub at_length : (k : ℕ) (w : WorldAt State Value Fixed) → IsBehind space code log start order breaks k w → length w.threads ≡ length start.threads
    at_length k w a = ap (λ v. length v.threads) a.at ∙ ordered_length space code log start order k

    pub at_start : IsBehind space code log start order breaks 0 start
    at_start = record { at = refl; goes_on = λ i l. absurd (omega (arith, l)); no_break = λ i l. absurd (omega (arith, l)) }

    -- one turn more
    pub turn_on : (k t : ℕ) (w v : WorldAt State Value Fixed) → IsBehind space code log start order breaks k w → thread_of_turn order (length start.threads) k ≡ t → GoesOn (turn_of space code log w t)
        → NoneHits space code log w t breaks → v ≡ world_after_turn space code w t (turn_of space code log w t) → IsBehind space code log start order breaks (suc k) v
    turn_on k t w v a of goes none is =
        let n = length start.threads in
        let u = ordered_world space code log start order k in
        record {
          at = is ∙ ap (λ x. world_after_turn space code x t (turn_of space code log x t)) a.at ∙ ap (λ x. world_after_turn space code u x (turn_of space code log u x)) (sym of);
          goes_on = λ i l. below_next (λ j. GoesOn (turn_of space code log (ordered_world space code log start order j) (thread_of_turn order n j))) i k l a.goes_on
              (subst (λ x. GoesOn (turn_of space code log u x)) (sym of) (subst (λ x. GoesOn (turn_of space code log x t)) a.at goes));
          no_break = λ i l. below_next (λ j. NoneHits space code log (ordered_world space code log start order j) (thread_of_turn order n j) breaks) i k l a.no_break
              (subst (λ x. NoneHits space code log u x breaks) (sym of) (subst (λ x. NoneHits space code log x t breaks) a.at none));
        }

    -- a turn that stops the replay
    pub in_turn : (k t : ℕ) (w v : WorldAt State Value Fixed) (s : Stopped) → IsBehind space code log start order breaks k w → thread_of_turn order (length start.threads) k ≡ t
        → TurnStopsAt space code log w t breaks v s → StopsAt space code log start order breaks v s
    in_turn k t w v (stopped.Break index) a of h = record { turns = k; world = w; behind = a; stops = subst (λ x. TurnStopsAt space code log w x breaks v (stopped.Break index)) (sym of) h }
    in_turn k t w v stopped.Finished a of h = absurd h
    in_turn k t w v stopped.Stuck a of h = absurd h
    in_turn k t w v (stopped.Fault f) a of h = record { turns = k; world = w; behind = a; stops = subst (λ x. TurnStopsAt space code log w x breaks v (stopped.Fault f)) (sym of) h }

    -- ---- rounds

    -- how many turns were taken
    abbrev pub turns_in : (t : ℕ) (made held : Bool) (w : WorldAt State Value Fixed) → IsInRound space code log start order breaks t made held w → ℕ
    turns_in t made held w r = length order + (r.rounds * length start.threads + t)

    -- a place in a round, and what was noted up to it
    abbrev pub NotedRound : (note : WorldAt State Value Fixed → ℕ → WorldAt State Value Fixed → List ℕ) (N : List ℕ → Type 0) (t : ℕ) (made held : Bool) → WorldAt State Value Fixed → Type 0
    NotedRound note N t made held w = (r : IsInRound space code log start order breaks t made held w) × N (notes space code note log start order (turns_in t made held w r))

    abbrev pub round_start : (w : WorldAt State Value Fixed) → IsBehind space code log start order breaks (length order) w → IsInRound space code log start order breaks 0 false false w
    round_start w a = record {
      rounds = 0;
      turn = subst (λ k. IsBehind space code log start order breaks k w) (let e : length order ≡ length order + (0 * length start.threads + 0) = omega arith in e) a;
      within = omega arith;
      still = λ h t l. absurd (omega (arith, l));
      shut = λ h t l. absurd (omega (arith, l));
      done = λ h i t l. absurd (omega (arith, l));
      waits = λ h i. absurd cc;
    }

    abbrev pub round_again : (t : ℕ) (made held : Bool) (w : WorldAt State Value Fixed) → length start.threads ≤ t → IsInRound space code log start order breaks t made held w → IsInRound space code log start order breaks 0 false false w
    round_again t made held w past r =
        let n = length start.threads in
        let same : t ≡ n = let l = r.within in omega (arith, l, past) in
        let e : length order + (r.rounds * n + t) ≡ length order + (suc r.rounds * n + 0) = let d : suc r.rounds * n ≡ r.rounds * n + n = grind arith in omega (arith, d, same) in
        record {
          rounds = suc r.rounds;
          turn = subst (λ k. IsBehind space code log start order breaks k w) e r.turn;
          within = omega arith;
          still = λ h i l. absurd (omega (arith, l));
          shut = λ h i l. absurd (omega (arith, l));
          done = λ h j i l. absurd (omega (arith, l));
          waits = λ h i. absurd cc;
        }

    pub of_round : (t : ℕ) (made held : Bool) (w : WorldAt State Value Fixed) (r : IsInRound space code log start order breaks t made held w) → t < length start.threads
        → thread_of_turn order (length start.threads) (length order + (r.rounds * length start.threads + t)) ≡ t
    of_round t made held w r l = thread_there order (length start.threads) r.rounds t l

    abbrev pub round_on : (t : ℕ) (made held : Bool) (x : Taken) (w v : WorldAt State Value Fixed) → IsInRound space code log start order breaks t made held w → t < length start.threads → GoesOn (turn_of space code log w t)
        → NoneHits space code log w t breaks → x ≡ taken_of (turn_of space code log w t)
        → v ≡ world_after_turn space code w t (turn_of space code log w t) → IsInRound space code log start order breaks (t + 1) (made || is_step x) (held || is_held x) v
    round_on t made held x w v r l goes none is after =
        let n = length start.threads in
        let y = turn_of space code log w t in
        let e : suc (length order + (r.rounds * n + t)) ≡ length order + (r.rounds * n + (t + 1)) = omega arith in
        let rests : is_step x ≡ false → makes_step y ≡ false = λ h. sym (steps_taken y) ∙ ap is_step (sym is) ∙ h in
        let same : is_step x ≡ false → v ≡ w = λ h. after ∙ stays w t y (rests h) in
        record {
          rounds = r.rounds;
          turn = subst (λ k. IsBehind space code log start order breaks k v) e (turn_on (length order + (r.rounds * n + t)) t w v r.turn (of_round t made held w r l) goes none after);
          within = omega (arith, l);
          still = λ h i m.
              let b = or_parts made (is_step x) h in
              subst (λ u. makes_step (turn_of space code log u i) ≡ false) (sym (same b.1)) (below_next (λ j. makes_step (turn_of space code log w j) ≡ false) i t (omega (arith, m)) (r.still b.0) (rests b.1));
          shut = λ h i m.
              let b = or_parts made (is_step x) h in
              subst (λ u. GoesOn (turn_of space code log u i)) (sym (same b.1)) (below_next (λ j. GoesOn (turn_of space code log w j)) i t (omega (arith, m)) (r.shut b.0) goes);
          done = λ h d i m.
              let b = or_parts made (is_step x) h in
              let c = or_parts held (is_held x) d in
              subst (λ u. turn_of space code log u i ≡ turn.Done) (sym (same b.1))
              (below_next (λ j. turn_of space code log w j ≡ turn.Done) i t (omega (arith, m)) (r.done b.0 c.0) (done_taken y (ap is_step (sym is) ∙ b.1) (ap is_held (sym is) ∙ c.1)));
          waits = λ h d.
              let b = or_parts made (is_step x) h in
              subst (IsHeld space code log) (sym (same b.1))
              (elim (or_cases held (is_held x) d) [
                | inl p ↦ r.waits b.0 p
                | inr p ↦ record { thread = t; held = held_taken y (ap is_held (sym is) ∙ p) }
              ]);
        }

    -- behind a whole round without a step
    runs_out : (t : ℕ) (held : Bool) (w : WorldAt State Value Fixed) → length start.threads ≤ t → IsInRound space code log start order breaks t false held w → RunsOut space code log start order breaks w
    runs_out t held w past r = record {
      turns = length order + (r.rounds * length start.threads + t);
      all_of_order = omega arith;
      behind = r.turn;
      still = λ i l. r.still refl i (omega (arith, l, past));
      shut = λ i l. r.shut refl i (omega (arith, l, past));
    }

    pub ends_so : (t : ℕ) (w : WorldAt State Value Fixed) → length start.threads ≤ t → IsInRound space code log start order breaks t false false w → StopsAt space code log start order breaks w stopped.Finished
    ends_so t w past r = (
      runs_out t false w past r,
      λ i th is. done_stands space code log w i
          (r.done refl refl i (let l = slice_get_within w.threads i th is in let e = at_length (length order + (r.rounds * length start.threads + t)) w r.turn in omega (arith, l, e, past))) th is,
    )

    pub sticks_so : (t : ℕ) (w : WorldAt State Value Fixed) → length start.threads ≤ t → IsInRound space code log start order breaks t false true w → StopsAt space code log start order breaks w stopped.Stuck
    sticks_so t w past r = (runs_out t true w past r, λ f. let h = r.waits refl refl in h.held (finished_done space code log w h.thread f))
