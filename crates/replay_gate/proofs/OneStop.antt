-- A replay up to a break stops at one turn, in one way.
use Rattle.std.proofs.Common.{◌≡◌, ℕ, zero, suc, ◌+◌, ◌-◌, ◌<◌, ◌≤◌, true, false, List, length, Some, refl, sym, ap, ◌∙◌, subst, arith, inl, inr}
use Rattle.std.proofs.lemmas.Bool.{cases_lt}
use Rattle.std.proofs.lemmas.Option.{slice_get_within, slice_get_past}
use Rattle.rw_objects.specs.Space.{Space}
use Rattle.rw_objects.specs.Code.{Code}
use Rattle.event_core.specs.Threads.{ThreadAt}
use Rattle.event_core.specs.World.{WorldAt}
use Rattle.replay_laws.specs.declared.turn.Turn.{Turn}
use Rattle.replay_laws.specs.declared.turn.Turn.TheVariants as turn
use Rattle.replay_laws.specs.declared.turn.Refusal.TheVariants.{Diverged}
use Rattle.replay_laws.specs.Log.{Log}
use Rattle.replay_laws.specs.Turns.{turn_by_thread, turn_of, world_after_turn}
use Rattle.replay_laws.specs.Ordered.{thread_of_turn, ordered_world}
use Rattle.replay_gate.specs.Answers.{makes_step}
use Rattle.replay_gate.specs.declared.answers.ReplayFault.{ReplayFault}
use Rattle.replay_gate.specs.declared.answers.ReplayFault.TheVariants as fault
use Rattle.replay_gate.specs.declared.breaks.Break.{Break}
use Rattle.replay_gate.specs.declared.breaks.Stopped.{Stopped}
use Rattle.replay_gate.specs.declared.breaks.Stopped.TheVariants as stopped
use Rattle.replay_gate.specs.Breaks.{FirstHits}
use Rattle.replay_gate.specs.Stops.{GoesOn, Diverges, TurnStopsAt, IsBehind, StopsInTurn, RunsOut, StopsAt}
use Rattle.replay_gate.specs.OneStop.{HadMemory}
use Rattle.replay_gate.proofs.BreakRoundsOn.{at_length}

no_divergence : (x : Turn) → GoesOn x → x ≡ turn.Refused Diverged → ⊥
no_divergence x g is = subst GoesOn is g

no_step : (x : Turn) → makes_step x ≡ true → x ≡ turn.Refused Diverged → ⊥
no_step x s is = let e : makes_step (turn.Refused Diverged) ≡ true = ap makes_step (sym is) ∙ s in cc

module _ {State Op Reply Value Fixed : Type 0} (space : Space Op Reply Value Fixed) (code : Code State Op Reply Fixed) (log : Log) where
  stays : (w : WorldAt State Value Fixed) (t : ℕ) (x : Turn) → makes_step x ≡ false → world_after_turn space code w t x ≡ w
  stays w t turn.Done h = refl
  stays w t turn.Local h = absurd cc
  stays w t (turn.Event input) h = absurd cc
  stays w t (turn.Refused r) h = refl

  -- ---- one turn

  one_index : (w : WorldAt State Value Fixed) (t : ℕ) (breaks : List Break) (i j : ℕ) → FirstHits space code log w t breaks i → FirstHits space code log w t breaks j → i ≡ j
  one_index w t breaks i j a b =
      elim (cases_lt i j) [
        | inl l ↦ absurd (b.first i a.one l a.is a.hits)
        | inr l ↦
            elim (cases_lt j i) [
              | inl m ↦ absurd (a.first j b.one m b.is b.hits)
              | inr m ↦ omega (arith, l, m)
            ]
      ]

  one_fault : (w : WorldAt State Value Fixed) (t : ℕ) (f g : ReplayFault) → Diverges space code log w t f → Diverges space code log w t g → f ≡ g
  one_fault w t f g a b =
      let same : a.thread ≡ b.thread = let e : Some a.thread ≡ Some b.thread = sym a.exists ∙ b.exists in cc in
      a.is ∙ ap (λ (th : ThreadAt State). fault.Diverged t th.places) same ∙ sym b.is

  diverges : (w v : WorldAt State Value Fixed) (t : ℕ) (breaks : List Break) (f : ReplayFault) → TurnStopsAt space code log w t breaks v (stopped.Fault f) → HadMemory (stopped.Fault f) → Diverges space code log w t f
  diverges w v t breaks f h had = elim h.0 [ inl e ↦ absurd (had (ap stopped.Fault e)) | inr d ↦ d ]

  same_turn : (w : WorldAt State Value Fixed) (t : ℕ) (breaks : List Break) (v u : WorldAt State Value Fixed) (s r : Stopped) → TurnStopsAt space code log w t breaks v s → TurnStopsAt space code log w t breaks u r → HadMemory s → HadMemory r → (v ≡ u) × (s ≡ r)
  same_turn w t breaks v u (stopped.Break i) (stopped.Break j) a b m n = (a.1 ∙ sym b.1, ap stopped.Break (one_index w t breaks i j a.0 b.0))
  same_turn w t breaks v u (stopped.Break i) stopped.Finished a b m n = absurd b
  same_turn w t breaks v u (stopped.Break i) stopped.Stuck a b m n = absurd b
  same_turn w t breaks v u (stopped.Break i) (stopped.Fault f) a b m n = absurd (no_step _ a.0.hits.step (diverges w u t breaks f b n).refused)
  same_turn w t breaks v u stopped.Finished r a b m n = absurd a
  same_turn w t breaks v u stopped.Stuck r a b m n = absurd a
  same_turn w t breaks v u (stopped.Fault f) (stopped.Break j) a b m n = absurd (no_step _ b.0.hits.step (diverges w v t breaks f a m).refused)
  same_turn w t breaks v u (stopped.Fault f) stopped.Finished a b m n = absurd b
  same_turn w t breaks v u (stopped.Fault f) stopped.Stuck a b m n = absurd b
  same_turn w t breaks v u (stopped.Fault f) (stopped.Fault g) a b m n = (a.1 ∙ sym b.1, ap stopped.Fault (one_fault w t f g (diverges w v t breaks f a m) (diverges w u t breaks g b n)))

  module _ (start : WorldAt State Value Fixed) (order : List ℕ) (breaks : List Break) where
    -- no turn stops the replay behind which it goes on
    not_before : (k j : ℕ) (w v : WorldAt State Value Fixed) (s : Stopped) → k < j → IsBehind space code log start order breaks j w
        → TurnStopsAt space code log (ordered_world space code log start order k) (thread_of_turn order (length start.threads) k) breaks v s → HadMemory s → ⊥
    not_before k j w v (stopped.Break i) l b h m = b.no_break k l i h.0.one h.0.is h.0.hits
    not_before k j w v stopped.Finished l b h m = h
    not_before k j w v stopped.Stuck l b h m = h
    not_before k j w v (stopped.Fault f) l b h m = no_divergence _ (b.goes_on k l) (diverges _ v _ breaks f h m).refused

    -- ---- behind the last step

    still : (v : WorldAt State Value Fixed) → RunsOut space code log start order breaks v → (t : ℕ) → makes_step (turn_of space code log v t) ≡ false
    still v r t =
        elim (cases_lt t (length start.threads)) [
          | inl l ↦ r.still t l
          | inr l ↦
              let e = at_length space code log start order breaks r.turns v r.behind in
              ap (λ o. makes_step (turn_by_thread space code log v t o)) (slice_get_past v.threads t (omega (arith, e, l)))
        ]

    rests : (v : WorldAt State Value Fixed) → RunsOut space code log start order breaks v → (j k : ℕ) → ordered_world space code log start order k ≡ v → ordered_world space code log start order (k + j) ≡ v
    rests v r zero k e = ap (ordered_world space code log start order) (let z : k + 0 ≡ k = omega arith in z) ∙ e
    rests v r (suc j) k e =
        let t = thread_of_turn order (length start.threads) (k + j) in
        let before = rests v r j k e in
        ap (ordered_world space code log start order) (let z : k + suc j ≡ suc (k + j) = omega arith in z)
        ∙ ap (λ w. world_after_turn space code w t (turn_of space code log w t)) before
        ∙ stays v t (turn_of space code log v t) (still v r t)

    rests_at : (v : WorldAt State Value Fixed) (r : RunsOut space code log start order breaks v) → (k : ℕ) → r.turns ≤ k → ordered_world space code log start order k ≡ v
    rests_at v r k l =
        ap (ordered_world space code log start order) (let z : k ≡ r.turns + (k - r.turns) = omega (arith, l) in z) ∙ rests v r (k - r.turns) r.turns (sym r.behind.at)

    no_stop : (v u : WorldAt State Value Fixed) (t : ℕ) (s : Stopped) → RunsOut space code log start order breaks v → TurnStopsAt space code log v t breaks u s → HadMemory s → ⊥
    no_stop v u t (stopped.Break i) r h m = let a = still v r t in let b = h.0.hits.step in cc
    no_stop v u t stopped.Finished r h m = h
    no_stop v u t stopped.Stuck r h m = h
    no_stop v u t (stopped.Fault f) r h m =
        let d = diverges v u t breaks f h m in
        let l = slice_get_within v.threads t d.thread d.exists in
        let e = at_length space code log start order breaks r.turns v r.behind in
        no_divergence _ (r.shut t (omega (arith, l, e))) d.refused

    not_both : (v u : WorldAt State Value Fixed) (s : Stopped) → RunsOut space code log start order breaks v → StopsInTurn space code log start order breaks u s → HadMemory s → ⊥
    not_both v u s r h m =
        let t = thread_of_turn order (length start.threads) h.turns in
        let here = subst (λ w. TurnStopsAt space code log w t breaks u s) h.behind.at h.stops in
        elim (cases_lt h.turns r.turns) [
          | inl l ↦ not_before h.turns r.turns v u s l r.behind here m
          | inr l ↦ no_stop v u t s r (subst (λ w. TurnStopsAt space code log w t breaks u s) (rests_at v r h.turns l) here) m
        ]

    both_out : (v u : WorldAt State Value Fixed) → RunsOut space code log start order breaks v → RunsOut space code log start order breaks u → v ≡ u
    both_out v u r q =
        elim (cases_lt r.turns q.turns) [
          | inl l ↦ sym (rests_at v r q.turns (omega (arith, l))) ∙ sym q.behind.at
          | inr l ↦ r.behind.at ∙ rests_at u q r.turns l
        ]

    both_in : (v u : WorldAt State Value Fixed) (s r : Stopped) → StopsInTurn space code log start order breaks v s → StopsInTurn space code log start order breaks u r → HadMemory s → HadMemory r → (v ≡ u) × (s ≡ r)
    both_in v u s r a b m n =
        let at_a = subst (λ w. TurnStopsAt space code log w (thread_of_turn order (length start.threads) a.turns) breaks v s) a.behind.at a.stops in
        let at_b = subst (λ w. TurnStopsAt space code log w (thread_of_turn order (length start.threads) b.turns) breaks u r) b.behind.at b.stops in
        elim (cases_lt a.turns b.turns) [
          | inl l ↦ absurd (not_before a.turns b.turns b.world v s l b.behind at_a m)
          | inr l ↦
              elim (cases_lt b.turns a.turns) [
                | inl k ↦ absurd (not_before b.turns a.turns a.world u r k a.behind at_b n)
                | inr k ↦
                    let q : b.turns ≡ a.turns = omega (arith, l, k) in
                    same_turn (ordered_world space code log start order a.turns) (thread_of_turn order (length start.threads) a.turns) breaks v u s r at_a
                    (subst (λ i. TurnStopsAt space code log (ordered_world space code log start order i) (thread_of_turn order (length start.threads) i) breaks u r) q at_b) m n
              ]
        ]

    pub stops_once : (v u : WorldAt State Value Fixed) (s r : Stopped) → StopsAt space code log start order breaks v s → StopsAt space code log start order breaks u r → HadMemory s → HadMemory r → (v ≡ u) × (s ≡ r)
    stops_once v u (stopped.Break i) (stopped.Break j) a b m n = both_in v u (stopped.Break i) (stopped.Break j) a b m n
    stops_once v u (stopped.Break i) stopped.Finished a b m n = absurd (not_both u v (stopped.Break i) b.0 a m)
    stops_once v u (stopped.Break i) stopped.Stuck a b m n = absurd (not_both u v (stopped.Break i) b.0 a m)
    stops_once v u (stopped.Break i) (stopped.Fault f) a b m n = both_in v u (stopped.Break i) (stopped.Fault f) a b m n
    stops_once v u stopped.Finished (stopped.Break j) a b m n = absurd (not_both v u (stopped.Break j) a.0 b n)
    stops_once v u stopped.Finished stopped.Finished a b m n = (both_out v u a.0 b.0, refl)
    stops_once v u stopped.Finished stopped.Stuck a b m n = absurd (b.1 (subst (λ w. Rattle.replay_laws.specs.Gates.IsFinished code log w) (both_out v u a.0 b.0) a.1))
    stops_once v u stopped.Finished (stopped.Fault f) a b m n = absurd (not_both v u (stopped.Fault f) a.0 b n)
    stops_once v u stopped.Stuck (stopped.Break j) a b m n = absurd (not_both v u (stopped.Break j) a.0 b n)
    stops_once v u stopped.Stuck stopped.Finished a b m n = absurd (a.1 (subst (λ w. Rattle.replay_laws.specs.Gates.IsFinished code log w) (sym (both_out v u a.0 b.0)) b.1))
    stops_once v u stopped.Stuck stopped.Stuck a b m n = (both_out v u a.0 b.0, refl)
    stops_once v u stopped.Stuck (stopped.Fault f) a b m n = absurd (not_both v u (stopped.Fault f) a.0 b n)
    stops_once v u (stopped.Fault f) (stopped.Break j) a b m n = both_in v u (stopped.Fault f) (stopped.Break j) a b m n
    stops_once v u (stopped.Fault f) stopped.Finished a b m n = absurd (not_both u v (stopped.Fault f) b.0 a m)
    stops_once v u (stopped.Fault f) stopped.Stuck a b m n = absurd (not_both u v (stopped.Fault f) b.0 a m)
    stops_once v u (stopped.Fault f) (stopped.Fault g) a b m n = both_in v u (stopped.Fault f) (stopped.Fault g) a b m n
