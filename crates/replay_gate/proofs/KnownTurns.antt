-- What is known of the turns of threads that rest.
use Rattle.std.proofs.Common.{◌≡◌, ◌≢◌, ℕ, zero, suc, ◌+◌, ◌<◌, ◌≤◌, get_or, false, List, [], ◌∷◌, length, slice_set, replicate, Option, Some, None, slice_get, option_map, refl, sym, ap, ◌∙◌, subst, arith, inl, inr}
use Rattle.std.proofs.lemmas.Bool.{cases_eq}
use Rattle.std.proofs.lemmas.List.{get_or-replicate, length-replicate}
use Rattle.std.proofs.lemmas.Option.{slice_get_within, slice_get-get_or, get_or_from_slice_get, same_Some}
use Rattle.rw_objects.specs.Space.{Space}
use Rattle.rw_objects.specs.Code.{Code}
use Rattle.event_core.specs.World.{WorldAt}
use Rattle.replay_laws.specs.declared.turn.Turn.{Turn}
use Rattle.replay_laws.specs.declared.turn.Turn.TheVariants as turn
use Rattle.replay_laws.specs.declared.turn.Refusal.TheVariants.{Missing, Clash, Shut, Diverged}
use Rattle.replay_laws.specs.Log.{Log}
use Rattle.replay_laws.specs.Turns.{turn_of, world_after_turn}
use Rattle.replay_gate.specs.LocalRounds.{Rests}
use Rattle.replay_gate.proofs.LeftSteps.{other_thread}
use Rattle.replay_gate.specs.declared.breaks.Break.{Break}
use Rattle.replay_gate.specs.declared.known.Known.{Known}
use Rattle.replay_gate.specs.declared.known.Known.TheVariants as known
use Rattle.replay_gate.specs.declared.running.Taken.{Taken}
use Rattle.replay_gate.specs.Known.{known_later, RestsSo, RestedSo, IsKnown, AreKnown}
use Rattle.replay_gate.specs.Stops.{GoesOn, taken_of, is_step, TurnTakes}
use Rattle.replay_gate.proofs.LocalRounds.{rests_still, rests_goes_on, rests_leave, same_turn}
use Rattle.replay_gate.proofs.BreakRoundsOn.{none_hits}

-- ---- lists

pub set_same : {A : Type 0} (xs : List A) (i : ℕ) (a : A) → i < length xs → slice_get (slice_set xs i a) i ≡ Some a
set_same [] i a l = absurd (omega (arith, l))
set_same (x ∷ xs) zero a l = refl
set_same (x ∷ xs) (suc i) a l = set_same xs i a (omega (arith, l))

pub set_other : {A : Type 0} (xs : List A) (i j : ℕ) (a : A) → j ≢ i → slice_get (slice_set xs i a) j ≡ slice_get xs j
set_other [] i j a d = refl
set_other (x ∷ xs) zero zero a d = absurd (d refl)
set_other (x ∷ xs) zero (suc j) a d = refl
set_other (x ∷ xs) (suc i) zero a d = refl
set_other (x ∷ xs) (suc i) (suc j) a d = set_other xs i j a (λ e. d (ap suc e))

same_all : {A : Type 0} (n t : ℕ) (a b : A) → slice_get (replicate n a) t ≡ Some b → a ≡ b
same_all n t a b h =
    let l = slice_get_within (replicate n a) t b h in
    let len = length-replicate n a in
    sym (get_or-replicate n t a a (omega (arith, l, len))) ∙ get_or_from_slice_get (replicate n a) t b a h

-- one item more is changed
pub later_before : (all first : List Known) (at : ℕ) (k : Known) → at < length all → k ≡ known_later (get_or all at known.Nothing) → ((t : ℕ) → t < at → slice_get all t ≡ option_map known_later (slice_get first t))
    → ((t : ℕ) → at ≤ t → slice_get all t ≡ slice_get first t) → (t : ℕ) → t < at + 1 → slice_get (slice_set all at k) t ≡ option_map known_later (slice_get first t)
later_before all first at k within is before behind t l =
    elim (cases_eq t at) [
      | inl e ↦
          let item = slice_get-get_or all at known.Nothing within in
          ap (slice_get (slice_set all at k)) e ∙ set_same all at k within ∙ ap Some is ∙ sym (ap (option_map known_later) item) ∙ ap (option_map known_later) (behind at (omega arith)) ∙ ap (λ i. option_map known_later (slice_get first i)) (sym e)
      | inr d ↦ set_other all at t k d ∙ before t (omega (arith, l, d))
    ]

pub later_behind : (all first : List Known) (at : ℕ) (k : Known) → ((t : ℕ) → at ≤ t → slice_get all t ≡ slice_get first t) → (t : ℕ) → at + 1 ≤ t → slice_get (slice_set all at k) t ≡ slice_get first t
later_behind all first at k behind t l = set_other all at t k (λ e. omega (arith, l, e)) ∙ behind t (omega (arith, l))

-- ---- one thread

-- a turn that was taken and made no step rests
taken_rests : (x : Turn) (y : Taken) → GoesOn x → y ≡ taken_of x → is_step y ≡ false → Rests x
taken_rests turn.Done y on is still = tt
taken_rests turn.Local y on is still = let s = ap is_step is in absurd cc
taken_rests (turn.Event input) y on is still = let s = ap is_step is in absurd cc
taken_rests (turn.Refused Shut) y on is still = tt
taken_rests (turn.Refused Missing) y on is still = tt
taken_rests (turn.Refused Clash) y on is still = tt
taken_rests (turn.Refused Diverged) y on is still = absurd on

module _ {State Op Reply Value Fixed : Type 0} (space : Space Op Reply Value Fixed) (code : Code State Op Reply Fixed) (log : Log) where
  later_one : (w v : WorldAt State Value Fixed) (t : ℕ) (k : Known) → slice_get v.threads t ≡ slice_get w.threads t → IsKnown space code log w t k → IsKnown space code log v t (known_later k)
  later_one w v t known.Nothing same is = tt
  later_one w v t (known.Rests x) same is = record { world = w; same = sym same; rests = is }
  later_one w v t (known.Rested x) same is = record { world = is.world; same = is.same ∙ sym same; rests = is.rests }

  still_one : (w v : WorldAt State Value Fixed) (t : ℕ) (k : Known) → v.memory ≡ w.memory → slice_get v.threads t ≡ slice_get w.threads t → IsKnown space code log w t k → IsKnown space code log v t k
  still_one w v t known.Nothing memory same is = tt
  still_one w v t (known.Rests x) memory same is =
      let e = same_turn space code log w v t memory same in
      (subst Rests (sym e) is.0, is.1 ∙ ap taken_of (sym e))
  still_one w v t (known.Rested x) memory same is = record { world = is.world; same = is.same ∙ sym same; rests = is.rests }

  -- the turn of a thread that rests leaves the world
  pub rests_takes : (w : WorldAt State Value Fixed) (t : ℕ) (breaks : List Break) (x : Taken) → RestsSo space code log w t x → TurnTakes space code log w t breaks w x
  rests_takes w t breaks x r = record {
    taken = r.1;
    on = rests_goes_on (turn_of space code log w t) r.0;
    none = none_hits space code log w t breaks (rests_still (turn_of space code log w t) r.0);
    world = sym (rests_leave space code w t (turn_of space code log w t) r.0);
  }

  -- what a turn tells that made no step
  pub taken_known : (w v : WorldAt State Value Fixed) (t : ℕ) (breaks : List Break) (x : Taken) → TurnTakes space code log w t breaks v x → is_step x ≡ false → v ≡ w × RestsSo space code log v t x
  taken_known w v t breaks x takes still =
      let rests = taken_rests (turn_of space code log w t) x takes.on takes.taken still in
      let same : v ≡ w = takes.world ∙ rests_leave space code w t (turn_of space code log w t) rests in
      (same, subst (λ u. RestsSo space code log u t x) (sym same) (rests, takes.taken))

  -- ---- all threads

  pub all_nothing : (w : WorldAt State Value Fixed) (n : ℕ) → AreKnown space code log w (replicate n known.Nothing)
  all_nothing w n t k h = subst (IsKnown space code log w t) (same_all n t known.Nothing k h) tt

  pub known_set : (w : WorldAt State Value Fixed) (all : List Known) (t : ℕ) (m : Known) → AreKnown space code log w all → IsKnown space code log w t m → t < length all → AreKnown space code log w (slice_set all t m)
  known_set w all t m are is within i k h =
      elim (cases_eq i t) [
        | inl e ↦
            let same : m ≡ k = same_Some m k (sym (set_same all t m within) ∙ ap (slice_get (slice_set all t m)) (sym e) ∙ h) in
            subst (λ j. IsKnown space code log w j k) (sym e) (subst (IsKnown space code log w t) same is)
        | inr d ↦ are i k (sym (set_other all t i m d) ∙ h)
      ]

  nothing_of : (w : WorldAt State Value Fixed) (all : List Known) (t i : ℕ) (k : Known) → i ≡ t → slice_get all t ≡ Some known.Nothing → slice_get all i ≡ Some k → known.Nothing ≡ k
  nothing_of w all t i k e nothing h = same_Some known.Nothing k (sym nothing ∙ ap (slice_get all) (sym e) ∙ h)

  module _ (w v : WorldAt State Value Fixed) (all : List Known) (t : ℕ) (are : AreKnown space code log w all) (nothing : slice_get all t ≡ Some known.Nothing) (others : (i : ℕ) → i ≢ t → slice_get v.threads i ≡ slice_get w.threads i) where
    -- behind local steps of a thread of which nothing was known
    pub known_still : v.memory ≡ w.memory → AreKnown space code log v all
    known_still memory i k h =
        elim (cases_eq i t) [
          | inl e ↦ subst (IsKnown space code log v i) (nothing_of w all t i k e nothing h) tt
          | inr d ↦ still_one w v i k memory (others i d) (are i k h)
        ]

    later_of : (i : ℕ) (k : Known) (o : Option Known) → slice_get all i ≡ o → option_map known_later o ≡ Some k → IsKnown space code log v i k
    later_of i k None is h = absurd cc
    later_of i k (Some m) is h =
        let same : known_later m ≡ k = same_Some (known_later m) k h in
        subst (IsKnown space code log v i) same
        (elim (cases_eq i t) [
          | inl e ↦ subst (λ n. IsKnown space code log v i (known_later n)) (nothing_of w all t i m e nothing is) tt
          | inr d ↦ later_one w v i m (others i d) (are i m is)
        ])

    -- behind its events
    pub known_on : (later : List Known) → ((i : ℕ) → slice_get later i ≡ option_map known_later (slice_get all i)) → AreKnown space code log v later
    known_on later told i k h = later_of i k (slice_get all i) refl (sym (told i) ∙ h)

  pub known_behind : (w v : WorldAt State Value Fixed) (all later : List Known) (t : ℕ) (x : Turn) → AreKnown space code log w all → slice_get all t ≡ Some known.Nothing → v ≡ world_after_turn space code w t x
      → ((i : ℕ) → slice_get later i ≡ option_map known_later (slice_get all i)) → AreKnown space code log v later
  known_behind w v all later t x are nothing after told =
      known_on w v all t are nothing (λ i d. ap (λ (u : WorldAt State Value Fixed). slice_get u.threads i) after ∙ other_thread space code w t i d x) later told

  pub known_same : (w v : WorldAt State Value Fixed) (all : List Known) → v ≡ w → AreKnown space code log w all → AreKnown space code log v all
  known_same w v all same are = subst (λ u. AreKnown space code log u all) (sym same) are

  -- a thread that rested rests still, where its turn is what it was
  pub rests_again : (w : WorldAt State Value Fixed) (t : ℕ) (x : Taken) (r : RestedSo space code log w t x) → turn_of space code log w t ≡ turn_of space code log r.world t → RestsSo space code log w t x
  rests_again w t x r same = (subst Rests (sym same) r.rests.0, r.rests.1 ∙ ap taken_of (sym same))
