-- Places and entries are counted together.
use Rattle.std.proofs.Common.{◌≡◌, ◌≢◌, ℕ, zero, suc, ◌+◌, ◌<◌, ◌≤◌, ◌==◌, cond, List, [], ◌∷◌, length, Option, Some, None, slice_get, refl, sym, ap, ◌∙◌, arith, inl, inr}
use Rattle.std.proofs.lemmas.List.{length-append}
use Rattle.std.proofs.lemmas.Bool.Decides.{eqb_tells}
use Rattle.std.proofs.lemmas.Option.{slice_get_within}
use Rattle.rw_objects.specs.Space.{Space}
use Rattle.rw_objects.specs.Code.{Code}
use Rattle.rw_objects.specs.Memory.{Memory, entry_of}
use Rattle.rw_objects.specs.declared.entry.Entry.{Entry}
use Rattle.event_core.specs.declared.pick.Pick.{Pick}
use Rattle.event_core.specs.declared.pick.Input.{Input}
use Rattle.event_core.specs.declared.step.PickStep.{PickStep}
use Rattle.event_core.specs.declared.step.PickStep.TheVariants as step
use Rattle.event_core.specs.Threads.{ThreadAt, change_at, thread_after_local, thread_after_reply}
use Rattle.event_core.specs.World.{WorldAt, step_of_thread, step_of_pick, world_after_step, world_after}
use Rattle.event_core.specs.Opening.{IsOpeningWorld}
use Rattle.event_core.proofs.SoundSteps.{length_change}
use Rattle.event_core.specs.Run.{world_run, entries_of_step, entries, PlacesCountEntries}

-- the events of a thread, none where there is no thread
abbrev pub places_at : {State : Type 0} → Option (ThreadAt State) → ℕ
places_at None = 0
places_at (Some t) = t.places

module _ {State : Type 0} where
  places_stay : (f : ThreadAt State → ThreadAt State) → ((x : ThreadAt State) → (f x).places ≡ x.places) → (ts : List (ThreadAt State)) (i t : ℕ) → places_at (slice_get (change_at ts i f) t) ≡ places_at (slice_get ts t)
  places_stay f same [] i t = refl
  places_stay f same (x ∷ xs) zero zero = same x
  places_stay f same (x ∷ xs) zero (suc t) = refl
  places_stay f same (x ∷ xs) (suc i) zero = refl
  places_stay f same (x ∷ xs) (suc i) (suc t) = places_stay f same xs i t

  places_more : (f : ThreadAt State → ThreadAt State) → ((x : ThreadAt State) → (f x).places ≡ x.places + 1) → (ts : List (ThreadAt State)) (t : ℕ) (th : ThreadAt State) → slice_get ts t ≡ Some th → places_at (slice_get (change_at ts t f) t) ≡ places_at (slice_get ts t) + 1
  places_more f more [] t th e = absurd (cc)
  places_more f more (x ∷ xs) zero th e = more x
  places_more f more (x ∷ xs) (suc t) th e = places_more f more xs t th e

  places_other : (f : ThreadAt State → ThreadAt State) (ts : List (ThreadAt State)) (i t : ℕ) → i ≢ t → places_at (slice_get (change_at ts i f) t) ≡ places_at (slice_get ts t)
  places_other f [] i t d = refl
  places_other f (x ∷ xs) zero zero d = absurd (d refl)
  places_other f (x ∷ xs) zero (suc t) d = refl
  places_other f (x ∷ xs) (suc i) zero d = refl
  places_other f (x ∷ xs) (suc i) (suc t) d = places_other f xs i t (λ e. d (ap suc e))

module _ {State Op Reply Value Fixed : Type 0} (space : Space Op Reply Value Fixed) (code : Code State Op Reply Fixed) where
  there : (m : Memory Value Fixed) (o : Option (ThreadAt State)) (input : Input) (op : Op) → step_of_thread space code m o input ≡ step.Event op → (t : ThreadAt State) × (o ≡ Some t)
  there m None input op h = absurd (cc)
  there m (Some t) input op h = (t, refl)

  of_event : (ts : List (ThreadAt State)) (i t : ℕ) (th : ThreadAt State) (r : Reply) (e : Entry) → slice_get ts i ≡ Some th
      → places_at (slice_get (change_at ts i (thread_after_reply code r)) t) ≡ places_at (slice_get ts t) + length (cond (i == t) (e ∷ []) [])
  of_event ts i t th r e is =
      elim (eqb_tells i t) [
        | inl p ↦ rw (p.0, ← p.1) (places_more (thread_after_reply code r) (λ x. refl) ts i th is)
        | inr p ↦ rw p.0 (let k = places_other (thread_after_reply code r) ts i t p.1 in omega (arith, k))
      ]

  of_step : (w : WorldAt State Value Fixed) (p : Pick) (t : ℕ) (s : PickStep Op) → step_of_pick space code w p ≡ s
      → places_at (slice_get (world_after_step space code w p.thread s).threads t) ≡ places_at (slice_get w.threads t) + length (entries_of_step space w.memory p.thread t s)
  of_step w p t (step.Refused f) q = omega arith
  of_step w p t step.Local q = let k = places_stay (thread_after_local code) (λ x. refl) w.threads p.thread t in omega (arith, k)
  of_step w p t (step.Event op) q =
      let e = there w.memory (slice_get w.threads p.thread) p.input op q in
      of_event w.threads p.thread t e.0 _ (entry_of space w.memory op) e.1

  -- a run adds as many places as entries
  pub places_of_run : (w : WorldAt State Value Fixed) (ps : List Pick) (t : ℕ) → places_at (slice_get (world_run space code w ps).threads t) ≡ places_at (slice_get w.threads t) + length (entries space code w ps t)
  places_of_run w [] t = omega arith
  places_of_run w (p ∷ ps) t =
      let here = of_step w p t (step_of_pick space code w p) refl in
      let rest = places_of_run (world_after space code w p) ps t in
      let all = length-append (entries_of_step space w.memory p.thread t (step_of_pick space code w p)) (entries space code (world_after space code w p) ps t) in
      omega (arith, here, rest, all)

  none_at : (w : WorldAt State Value Fixed) (t : ℕ) → IsOpeningWorld code w → (o : Option (ThreadAt State)) → slice_get w.threads t ≡ o → places_at o ≡ 0
  none_at w t opening None e = refl
  none_at w t opening (Some th) e = opening.no_places t th e

  pub places_count_entries : PlacesCountEntries space code
  places_count_entries w opening ps t thread e =
      let all = places_of_run w ps t in
      let none = none_at w t opening (slice_get w.threads t) refl in
      let here : thread.places ≡ places_at (slice_get (world_run space code w ps).threads t) = sym (ap places_at e) in
      here ∙ (all ∙ omega (arith, none))

  past : (n by t : ℕ) (e : Entry) → by < n → n ≤ t → cond (by == t) (e ∷ []) [] ≡ []
  past n by t e l m =
      elim (eqb_tells by t) [
        | inl p ↦ absurd (omega (arith, p.1, l, m))
        | inr p ↦ rw p.0
      ]

  step_past : (w : WorldAt State Value Fixed) (p : Pick) (t : ℕ) (s : PickStep Op) → step_of_pick space code w p ≡ s → length w.threads ≤ t → entries_of_step space w.memory p.thread t s ≡ []
  step_past w p t (step.Refused f) q l = refl
  step_past w p t step.Local q l = refl
  step_past w p t (step.Event op) q l =
      let e = there w.memory (slice_get w.threads p.thread) p.input op q in
      past (length w.threads) p.thread t (entry_of space w.memory op) (slice_get_within w.threads p.thread e.0 e.1) l

  pub length_after : (w : WorldAt State Value Fixed) (t : ℕ) (s : PickStep Op) → length (world_after_step space code w t s).threads ≡ length w.threads
  length_after w t (step.Refused f) = refl
  length_after w t step.Local = length_change (thread_after_local code) w.threads t
  length_after w t (step.Event op) = length_change _ w.threads t

  -- past the last thread there is no entry
  pub entries_past : (w : WorldAt State Value Fixed) (ps : List Pick) (t : ℕ) → length w.threads ≤ t → entries space code w ps t ≡ []
  entries_past w [] t l = refl
  entries_past w (p ∷ ps) t l =
      let here = step_past w p t (step_of_pick space code w p) refl l in
      let rest = entries_past (world_after space code w p) ps t (omega (arith, l, length_after w p.thread (step_of_pick space code w p))) in
      rw (here, rest) refl

  pub length_run : (w : WorldAt State Value Fixed) (ps : List Pick) → length (world_run space code w ps).threads ≡ length w.threads
  length_run w [] = refl
  length_run w (p ∷ ps) = length_run (world_after space code w p) ps ∙ length_after w p.thread (step_of_pick space code w p)
