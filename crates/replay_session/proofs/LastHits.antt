-- The last step behind which a break or a test holds.
use Rattle.std.proofs.Common.{◌≡◌, ◌⊎◌, ℕ, ◌+◌, ◌-◌, ◌<◌, ◌≤◌, true, false, List, Option, Some, None, refl, sym, ap, ◌∙◌, subst, arith, inl, inr}
use Rattle.std.specs.Prelude.{IfSome}
use Rattle.std.proofs.lemmas.Bool.{cases_lt}
use Rattle.rw_objects.specs.Space.{Space}
use Rattle.rw_objects.specs.Code.{Code}
use Rattle.event_core.specs.World.{WorldAt}
use Rattle.replay_laws.specs.Log.{Log}
use Rattle.replay_laws.specs.Turns.{turn_of}
use Rattle.replay_gate.specs.Answers.{makes_step}
use Rattle.replay_gate.specs.declared.answers.ReplayFault.{ReplayFault}
use Rattle.replay_gate.specs.declared.answers.ReplayFault.TheVariants as fault
use Rattle.replay_gate.specs.declared.breaks.Break.{Break}
use Rattle.replay_gate.specs.declared.running.Taken.{Taken}
use Rattle.replay_gate.specs.Stops.{taken_of, is_step, Diverges, TurnTakes}
use Rattle.replay_laws.specs.declared.turn.Turn.{Turn}
use Rattle.replay_laws.specs.declared.turn.Turn.TheVariants as turn
use Rattle.replay_session.specs.declared.paused.Met.{Met}
use Rattle.replay_session.specs.declared.paused.Met.TheVariants as met
use Rattle.replay_session.specs.declared.paused.Paused.{Paused}
use Rattle.replay_session.specs.declared.paused.Paused.TheVariants as paused
use Rattle.replay_session.specs.Gone.{is_want_of_memory, steps_of_turn, TurnPasses}
use Rattle.replay_session.specs.declared.reverse.Hit.{Hit}
use Rattle.replay_session.specs.declared.reverse.Tested.{Tested}
use Rattle.replay_session.specs.declared.reverse.Tested.TheVariants as tested
use Rattle.replay_session.specs.Meets.{Untested, MeetsNone, Meets}
use Rattle.replay_session.specs.Pauses.{TurnPausesAt}
use Rattle.replay_session.specs.Reverse.{steps_of_test, last_behind, last_of, TurnTests, NoneHitBetween, HitsLast, IsLastHit}
use Rattle.replay_session.proofs.Counting.{stays}

pub few_tested : (x : Tested) → steps_of_test x ≤ 1
few_tested tested.Rests = omega arith
few_tested tested.Steps = omega arith
few_tested (tested.Hits m) = omega arith

pub makes_one : (x : Turn) → makes_step x ≡ true → 1 ≡ steps_of_turn x
makes_one turn.Done h = absurd cc
makes_one turn.Local h = refl
makes_one (turn.Event input) h = refl
makes_one (turn.Refused r) h = absurd cc

makes_none : (x : Turn) → makes_step x ≡ false → 0 ≡ steps_of_turn x
makes_none turn.Done h = refl
makes_none turn.Local h = absurd cc
makes_none (turn.Event input) h = absurd cc
makes_none (turn.Refused r) h = refl

module _ {State Op Reply Value Fixed : Type 0} (space : Space Op Reply Value Fixed) (code : Code State Op Reply Fixed) (log : Log) (breaks : List Break) (holds : WorldAt State Value Fixed → ℕ → Option ℕ) where
  -- ---- one turn

  taken_rests : (x : Turn) (a : Taken) → a ≡ taken_of x → is_step a ≡ false → makes_step x ≡ false
  taken_rests turn.Done a e idle = refl
  taken_rests turn.Local a e idle = let h = ap is_step e in absurd cc
  taken_rests (turn.Event input) a e idle = let h = ap is_step e in absurd cc
  taken_rests (turn.Refused r) a e idle = refl

  taken_makes : (x : Turn) (a : Taken) → a ≡ taken_of x → is_step a ≡ true → makes_step x ≡ true
  taken_makes turn.Done a e on = let h = ap is_step e in absurd cc
  taken_makes turn.Local a e on = refl
  taken_makes (turn.Event input) a e on = refl
  taken_makes (turn.Refused r) a e on = let h = ap is_step e in absurd cc

  pub rests_tested : (t : ℕ) (w v : WorldAt State Value Fixed) (a : Taken) → TurnTakes space code log w t breaks v a → is_step a ≡ false → TurnTests space code log breaks holds t w v tested.Rests
  rests_tested t w v a h idle =
      let rests = taken_rests (turn_of space code log w t) a h.taken idle in
      (rests, h.world ∙ stays space code w t (turn_of space code log w t) rests)

  pub step_tested : (t : ℕ) (w v : WorldAt State Value Fixed) (a : Taken) → TurnTakes space code log w t breaks v a → Untested space code log holds w t → is_step a ≡ true → TurnTests space code log breaks holds t w v tested.Steps
  step_tested t w v a h none on = (taken_makes (turn_of space code log w t) a h.taken on, (h.none, none), h.world)

  pub hit_tested : (t : ℕ) (w v : WorldAt State Value Fixed) (p : Paused) (m : Met) → p ≡ paused.Met m → TurnPausesAt space code log breaks holds w t v p → TurnTests space code log breaks holds t w v (tested.Hits m)
  hit_tested t w v p (met.Break index) is h = subst (TurnPausesAt space code log breaks holds w t v) is h
  hit_tested t w v p (met.Test index) is h = subst (TurnPausesAt space code log breaks holds w t v) is h

  pub fault_tested : (t : ℕ) (w v : WorldAt State Value Fixed) (p : Paused) (f : ReplayFault) → p ≡ paused.Fault f → TurnPausesAt space code log breaks holds w t v p → is_want_of_memory f ≡ false → TurnTests space code log breaks holds t w v tested.Rests
  fault_tested t w v p f is h other =
      let x = subst (TurnPausesAt space code log breaks holds w t v) is h in
      go x.0 x.1
    where
      go : (f ≡ fault.NoMemory) ⊎ Diverges space code log w t f → v ≡ w → TurnTests space code log breaks holds t w v tested.Rests
      go (inl e) same = let k = ap is_want_of_memory e in absurd cc
      go (inr d) same = (ap makes_step d.refused, same)

  met_makes : (w : WorldAt State Value Fixed) (t : ℕ) (m : Met) → Meets space code log breaks holds w t m → makes_step (turn_of space code log w t) ≡ true
  met_makes w t (met.Break index) h = h.hits.step
  met_makes w t (met.Test index) h = h.step

  -- a turn that is tested is made, or passed over
  pub test_passes : (t : ℕ) (w v : WorldAt State Value Fixed) (x : Tested) → TurnTests space code log breaks holds t w v x → TurnPasses space code log t w v (steps_of_test x)
  test_passes t w v tested.Rests h = (makes_none (turn_of space code log w t) h.0, h.1 ∙ sym (stays space code w t (turn_of space code log w t) h.0))
  test_passes t w v tested.Steps h = (makes_one (turn_of space code log w t) h.0, h.2)
  test_passes t w v (tested.Hits m) h = (makes_one (turn_of space code log w t) (met_makes w t m h.0), h.1)

  -- ---- steps one behind the other

  module _ (Step : ℕ → WorldAt State Value Fixed → ℕ → Type 0) where
    none_on : (first b : ℕ) → NoneHitBetween space code log breaks holds Step first b → ((x : WorldAt State Value Fixed) (t : ℕ) → Step b x t → MeetsNone space code log breaks holds x t) → NoneHitBetween space code log breaks holds Step first (b + 1)
    none_on first b before here n from below x t step =
        elim (cases_lt n b) [
          | inl l ↦ before n from l x t step
          | inr l ↦ here x t (subst (λ m. Step m x t) (let z : n ≡ b = omega (arith, l, below) in z) step)
        ]

    none_hits : (b : ℕ) (w : WorldAt State Value Fixed) (t : ℕ) → (Step b w t → (y : WorldAt State Value Fixed) (s : ℕ) → Step b y s → (y ≡ w) × (s ≡ t)) → Step b w t → MeetsNone space code log breaks holds w t
        → (y : WorldAt State Value Fixed) (s : ℕ) → Step b y s → MeetsNone space code log breaks holds y s
    none_hits b w t once step none y s at =
        let same = once step y s at in
        subst (λ z. MeetsNone space code log breaks holds z s) (sym same.0) (subst (λ z. MeetsNone space code log breaks holds w z) (sym same.1) none)

    pub no_steps_yet : IsLastHit space code log breaks holds Step 0 None
    no_steps_yet = λ n from below. absurd (omega (arith, below))

    -- a turn that was tested is the next step, where it makes one
    pub last_on : (b : ℕ) (last : Option Hit) (w v : WorldAt State Value Fixed) (t : ℕ) (x : Tested) → TurnTests space code log breaks holds t w v x → (makes_step (turn_of space code log w t) ≡ true → Step b w t)
        → (Step b w t → (y : WorldAt State Value Fixed) (s : ℕ) → Step b y s → (y ≡ w) × (s ≡ t)) → IsLastHit space code log breaks holds Step b last → IsLastHit space code log breaks holds Step (b + steps_of_test x) (last_behind last b x)
    last_on b last w v t tested.Rests h step once is = subst (λ n. IsLastHit space code log breaks holds Step n last) (let z : b ≡ b + 0 = omega arith in z) is
    last_on b None w v t tested.Steps h step once is = none_on 0 b is (none_hits b w t once (step h.0) h.1)
    last_on b (Some hit) w v t tested.Steps h step once is =
        let l = is.2 in
        let m = l.within in (
          is.0,
          is.1,
          record { world = l.world; thread = l.thread; within = omega (arith, m); step = l.step; hits = l.hits; none = none_on (is.0 + 1) b l.none (none_hits b w t once (step h.0) h.1) },
        )
    last_on b last w v t (tested.Hits here) h step once is = (
      b,
      refl,
      record { world = w; thread = t; within = omega arith; step = step (met_makes w t here h.0); hits = h.0; none = λ n from below. absurd (omega (arith, from, below)) },
    )

  -- ---- the same steps, told another way

  module _ (Step Other : ℕ → WorldAt State Value Fixed → ℕ → Type 0) (b : ℕ) (forth : (n : ℕ) (x : WorldAt State Value Fixed) (t : ℕ) → n < b → Step n x t → Other n x t) (back : (n : ℕ) (x : WorldAt State Value Fixed) (t : ℕ) → n < b → Other n x t → Step n x t) where
    none_told : (first : ℕ) → NoneHitBetween space code log breaks holds Step first b → NoneHitBetween space code log breaks holds Other first b
    none_told first h n from below x t step = h n from below x t (back n x t below step)

    pub hits_told : (m : ℕ) (here : Met) → HitsLast space code log breaks holds Step b m here → HitsLast space code log breaks holds Other b m here
    hits_told m here l = record { world = l.world; thread = l.thread; within = l.within; step = forth m l.world l.thread l.within l.step; hits = l.hits; none = none_told (m + 1) l.none }

    pub last_told : (last : Option Hit) → IsLastHit space code log breaks holds Step b last → IsLastHit space code log breaks holds Other b last
    last_told None is = none_told 0 is
    last_told (Some hit) is = (is.0, is.1, hits_told is.0 hit.met is.2)

  -- ---- steps of a leg behind those before it

  module _ (Step Leg : ℕ → WorldAt State Value Fixed → ℕ → Type 0) (b k : ℕ) (forth : (n : ℕ) (x : WorldAt State Value Fixed) (t : ℕ) → n < k → Leg n x t → Step (b + n) x t) (back : (n : ℕ) (x : WorldAt State Value Fixed) (t : ℕ) → b ≤ n → n < b + k → Step n x t → Leg (n - b) x t) where
    none_behind : (first : ℕ) → NoneHitBetween space code log breaks holds Leg first k → NoneHitBetween space code log breaks holds Step (b + first) (b + k)
    none_behind first h n from below x t step = h (n - b) (omega (arith, from)) (omega (arith, from, below)) x t (back n x t (omega (arith, from)) below step)

    none_joined : (first : ℕ) → NoneHitBetween space code log breaks holds Step first b → NoneHitBetween space code log breaks holds Leg 0 k → NoneHitBetween space code log breaks holds Step first (b + k)
    none_joined first before behind n from below x t step =
        elim (cases_lt n b) [
          | inl l ↦ before n from l x t step
          | inr l ↦ none_behind 0 behind n (omega (arith, l)) below x t step
        ]

    pub last_joined : (last of_leg : Option Hit) → IsLastHit space code log breaks holds Step b last → IsLastHit space code log breaks holds Leg k of_leg → IsLastHit space code log breaks holds Step (b + k) (last_of last b of_leg)
    last_joined None None is on = none_joined 0 is on
    last_joined (Some hit) None is on =
        let l = is.2 in
        let m = l.within in (
          is.0,
          is.1,
          record { world = l.world; thread = l.thread; within = omega (arith, m); step = l.step; hits = l.hits; none = none_joined (is.0 + 1) l.none on },
        )
    last_joined last (Some hit) is on =
        let l = on.2 in
        let m = l.within in
        let e = on.1 in (
          b + on.0,
          omega (arith, e),
          record {
            world = l.world;
            thread = l.thread;
            within = omega (arith, m);
            step = forth on.0 l.world l.thread m l.step;
            hits = l.hits;
            none = subst (λ f. NoneHitBetween space code log breaks holds Step f (b + k)) (let z : b + (on.0 + 1) ≡ b + on.0 + 1 = omega arith in z) (none_behind (on.0 + 1) l.none);
          },
        )

  -- a hit is among the steps that were looked at
  pub few_hit : (Step : ℕ → WorldAt State Value Fixed → ℕ → Type 0) (before b most : ℕ) (last : Option Hit) → before + b ≤ most → IsLastHit space code log breaks holds Step b last → IfSome last (λ hit. before + hit.steps ≤ most)
  few_hit Step before b most None few is = tt
  few_hit Step before b most (Some hit) few is = let m = is.2.within in let e = is.1 in omega (arith, few, m, e)
