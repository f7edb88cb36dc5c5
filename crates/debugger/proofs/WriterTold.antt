-- The event that wrote a version is all that is told of those that did.
use Rattle.std.proofs.Common.{◌≡◌, ◌≢◌, ℕ, zero, suc, ◌+◌, ◌<◌, true, false, List, [], ◌∷◌, ◌++◌, Some, slice_get, refl, sym, ap, ◌∙◌, subst, arith, inl, inr}
use Rattle.std.proofs.lemmas.Bool.Decides.{eqb_tells}
use Rattle.std.proofs.lemmas.List.{append-nil}
use Rattle.std.proofs.lemmas.Option.{same_Some}
use Rattle.event_core.specs.Threads.{ThreadAt}
use Rattle.event_core.specs.World.{WorldAt}
use Rattle.replay_laws.specs.Log.{Log}
use Rattle.replay_session.specs.Writers.{OneWriterEach}
use Rattle.replica.specs.declared.diverging.EventAt.{EventAt}
use Rattle.debugger.specs.declared.touched.Events.TheVariants.{Made}
use Rattle.debugger.specs.declared.touched.Role.TheVariants as role
use Rattle.debugger.specs.declared.touched.Sought.{Sought}
use Rattle.debugger.specs.Touched.{is_sought_item, event_if, events_from, events_of, IsFirstEvent, IsSomeEvent, NoEventOfThread, NoEvent}
use Rattle.debugger.proofs.OneWriter.{no_other}

module _ (log : Log) (s : Sought) where
  -- none of them did
  none_from : (t first n : ℕ) → ((q : ℕ) → q < n → is_sought_item s (log.entry t (first + q)) ≡ false) → events_from log s t first n ≡ []
  none_from t first zero h = refl
  none_from t first (suc n) h =
      ap (λ l. l ++ event_if (is_sought_item s (log.entry t (first + n))) t (first + n)) (none_from t first n (λ q l. h q (omega (arith, l))))
      ∙ ap (λ b. event_if b t (first + n)) (h n (omega arith))

  -- one of them did
  one_from : (t first n p : ℕ) → p < n → is_sought_item s (log.entry t (first + p)) ≡ true → ((q : ℕ) → q < n → q ≢ p → is_sought_item s (log.entry t (first + q)) ≡ false)
      → events_from log s t first n ≡ event_if true t (first + p)
  one_from t first zero p l did h = absurd (omega (arith, l))
  one_from t first (suc n) p l did h = elim (eqb_tells n p) [
    | inl e ↦
        ap (λ l. l ++ event_if (is_sought_item s (log.entry t (first + n))) t (first + n)) (none_from t first n (λ q l. h q (omega (arith, l)) (λ same. absurd (omega (arith, l, same, e.1)))))
        ∙ ap (λ k. event_if (is_sought_item s (log.entry t (first + k))) t (first + k)) e.1
        ∙ ap (λ b. event_if b t (first + p)) did
    | inr e ↦
        ap (λ l. l ++ event_if (is_sought_item s (log.entry t (first + n))) t (first + n)) (one_from t first n p (omega (arith, l, e.1)) did (λ q l other. h q (omega (arith, l)) other))
        ∙ ap (λ b. event_if true t (first + p) ++ event_if b t (first + n)) (h n (omega arith) e.1)
        ∙ append-nil (event_if true t (first + p))
  ]

  module _ {State : Type 0} where
    none_of : (n : ℕ) (ts : List (ThreadAt State)) → ((i : ℕ) (at : ThreadAt State) → slice_get ts i ≡ Some at → NoEventOfThread log s (n + i) at.places) → events_of log s Made n ts ≡ []
    none_of n [] h = refl
    none_of n (t ∷ ts) h =
        ap (λ l. l ++ events_of log s Made (n + 1) ts) (none_from n 0 t.places (λ q l. ap (λ k. is_sought_item s (log.entry k (0 + q))) (let z : n ≡ n + 0 = omega arith in z) ∙ ap (λ k. is_sought_item s (log.entry (n + 0) k)) (let z : 0 + q ≡ q = omega arith in z) ∙ h 0 t refl q l))
        ∙ none_of (n + 1) ts (λ i at there q l. ap (λ k. is_sought_item s (log.entry k q)) (let z : n + 1 + i ≡ n + suc i = omega arith in z) ∙ h (suc i) at there q l)

    pub none_told : (ts : List (ThreadAt State)) → NoEvent log s ts → events_of log s Made 0 ts ≡ []
    none_told ts none = none_of 0 ts (λ i at there q l. ap (λ k. is_sought_item s (log.entry k q)) (let z : 0 + i ≡ i = omega arith in z) ∙ none i at there q l)

    one_of : (n : ℕ) (ts : List (ThreadAt State)) (i p : ℕ) (at : ThreadAt State) → slice_get ts i ≡ Some at → p < at.places → is_sought_item s (log.entry (n + i) p) ≡ true
        → ((j q : ℕ) (u : ThreadAt State) → slice_get ts j ≡ Some u → q < u.places → ((j ≡ i) × (q ≡ p) → ⊥) → is_sought_item s (log.entry (n + j) q) ≡ false)
        → events_of log s Made n ts ≡ event_if true (n + i) p
    one_of n [] i p at there l did h = absurd cc
    one_of n (t ∷ ts) zero p at there l did h =
        let same : t ≡ at = same_Some t at there in
        let here : (k : ℕ) → log.entry n (0 + k) ≡ log.entry (n + 0) k = λ k. ap (λ a. log.entry a (0 + k)) (let z : n ≡ n + 0 = omega arith in z) ∙ ap (log.entry (n + 0)) (let z : 0 + k ≡ k = omega arith in z) in
        ap (λ l. l ++ events_of log s Made (n + 1) ts)
        (one_from n 0 t.places p (subst (λ (u : ThreadAt State). p < u.places) (sym same) l) (ap (is_sought_item s) (here p) ∙ did) (λ q m other. ap (is_sought_item s) (here q) ∙ h 0 q t refl m (λ e. other e.1)))
        ∙ ap (λ l. event_if true n (0 + p) ++ l) (none_of (n + 1) ts (λ j u is q m. ap (λ k. is_sought_item s (log.entry k q)) (let z : n + 1 + j ≡ n + suc j = omega arith in z) ∙ h (suc j) q u is m (λ e. absurd (omega (arith, e.0)))))
        ∙ append-nil (event_if true n (0 + p))
        ∙ ap (λ k. event_if true k (0 + p)) (let z : n ≡ n + 0 = omega arith in z)
        ∙ ap (event_if true (n + 0)) (let z : 0 + p ≡ p = omega arith in z)
    one_of n (t ∷ ts) (suc i) p at there l did h =
        let here : (k : ℕ) → log.entry n (0 + k) ≡ log.entry (n + 0) k = λ k. ap (λ a. log.entry a (0 + k)) (let z : n ≡ n + 0 = omega arith in z) ∙ ap (log.entry (n + 0)) (let z : 0 + k ≡ k = omega arith in z) in
        let later : (j : ℕ) → n + 1 + j ≡ n + suc j = λ j. omega arith in
        ap (λ l. l ++ events_of log s Made (n + 1) ts) (none_from n 0 t.places (λ q m. ap (is_sought_item s) (here q) ∙ h 0 q t refl m (λ e. absurd (omega (arith, e.0)))))
        ∙ one_of (n + 1) ts i p at there l (ap (λ k. is_sought_item s (log.entry k p)) (later i) ∙ did)
        (λ j q u is m other. ap (λ k. is_sought_item s (log.entry k q)) (later j) ∙ h (suc j) q u is m (λ e. other (let z : suc j ≡ suc i = e.0 in omega (arith, z), e.1)))
        ∙ ap (λ k. event_if true k p) (later i)

-- the event that is found is all that is told
module _ {State Value Fixed : Type 0} (log : Log) (s : Sought) (writer : s.role ≡ role.Writer) (w : WorldAt State Value Fixed) (one : OneWriterEach log w) where
  done_first : (e : EventAt) → IsFirstEvent log s w.threads e → IsSomeEvent log s w.threads e
  done_first e f = record { at = f.at; thread = f.thread; made = f.first.made; sought = f.first.sought }

  one_told : (e : EventAt) → IsFirstEvent log s w.threads e → events_of log s Made 0 w.threads ≡ event_if true e.thread e.place
  one_told e f =
      let num : (k : ℕ) → 0 + k ≡ k = λ k. omega arith in
      one_of log s 0 w.threads e.thread e.place f.at f.thread f.first.made (ap (λ k. is_sought_item s (log.entry k e.place)) (num e.thread) ∙ f.first.sought)
      (λ j q u is m other. ap (λ k. is_sought_item s (log.entry k q)) (num j) ∙ no_other log s writer w one e (done_first e f) j q u is m other)
      ∙ ap (λ k. event_if true k e.place) (num e.thread)

  pub told_alone : (e : EventAt) → IsFirstEvent log s w.threads e → (now next : List ℕ) → now ≡ [] → next ≡ now ++ event_if true e.thread e.place → next ≡ events_of log s Made 0 w.threads
  told_alone e f now next none more = more ∙ ap (λ l. l ++ event_if true e.thread e.place) none ∙ sym (one_told e f)
