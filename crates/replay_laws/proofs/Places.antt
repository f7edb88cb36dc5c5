-- The step of a thread at a count of steps, and its entry at its place.
use Rattle.rw_objects.specs.declared.entry.Entry.{Entry}
use Rattle.std.proofs.Common.{◌≡◌, ℕ, suc, ◌+◌, ◌-◌, ◌<◌, ◌≤◌, ◌==◌, Bool, true, false, cond, List, [], ◌∷◌, length, Option, Some, None, refl, sym, ap, ◌∙◌, inl, inr, arith}
use Rattle.std.specs.Prelude.{◌⊎◌, slice_get}
use Rattle.std.proofs.lemmas.Bool.{cases_lt}
use Rattle.std.proofs.lemmas.Bool.Decides.{nat_tests}
use Rattle.replay_laws.proofs.System.{System}
use Rattle.replay_laws.proofs.Worlds.{World, Happening, IsStep, IsRun}
use Rattle.replay_laws.proofs.Logs.{own, entries_of, IsPoint}
use Rattle.replay_laws.proofs.Facts.{fact, events_in}
use Rattle.replay_laws.proofs.Points.{IsIn, before_in}

-- the step that thread t makes after k steps
pub record Moment {V S : Type 0} (hs : List (Happening V S)) (t k : ℕ) : Type 0 where
  pub step : Happening V S
  pub is_in : IsIn step hs
  pub thread : step.thread ≡ t
  pub steps : step.before.steps t ≡ k

pub this_step : (t x k n m : ℕ) → m ≡ cond (t == x) (n + 1) n → n ≤ k → k < m → (x ≡ t) × (n ≡ k)
this_step t x k n m e l g = (grind (arith, nat_tests), grind (arith, nat_tests))

-- an entry more
count_own : (b : Bool) (e : Option Entry) (es : List Entry) → length (own b e es) ≡ cond b (events_in e) 0 + length es
count_own false e es = omega arith
count_own true None es = omega arith
count_own true (Some e) es = omega arith

pub own_next : (x t n m j : ℕ) (e : Option Entry) (es : List Entry) (item : Option Entry) → n ≤ m → m ≡ cond (t == x) (n + events_in e) n → (i : ℕ) → m + j ≡ n + i → slice_get es j ≡ item → slice_get (own (x == t) e es) i ≡ item
own_next x t n m j e es item l c i a s = go (x == t) refl e refl
  where
    flip : (b : Bool) → (x == t) ≡ b → (t == x) ≡ b
    flip b d = grind (arith, nat_tests)

    same : m ≡ n → slice_get es i ≡ item
    same d = let q : j ≡ i = omega arith in rw (← q) s

    go : (b : Bool) → (x == t) ≡ b → (d : Option Entry) → e ≡ d → slice_get (own b d es) i ≡ item
    go false p d q = same (c ∙ ap (λ b. cond b (n + events_in e) n) (flip false p))
    go true p None q = same (let y = c ∙ ap (λ b. cond b (n + events_in e) n) (flip true p) ∙ ap (λ d. n + events_in d) q in omega arith)
    go true p (Some d) q =
        let y = c ∙ ap (λ b. cond b (n + events_in e) n) (flip true p) ∙ ap (λ d. n + events_in d) q in
        let z : i ≡ suc j = omega arith in
        rw z s

module _ {V O R S : Type 0} (sys : System V O R S) where
  pub moment : (t k : ℕ) (w : World V S) (hs : List (Happening V S)) (u : World V S) → IsRun sys w hs u → w.steps t ≤ k → k < u.steps t → Moment hs t k
  moment t k w [] u r l g = let e = ap (λ y. y.steps t) r in absurd (omega arith)
  moment t k w (h ∷ hs) u r l g = go (λ b. moment t k h.after hs u r.2 b g) (cases_lt k (h.after.steps t))
    where
      here : k < h.after.steps t → (h.thread ≡ t) × (h.before.steps t ≡ k)
      here b = this_step t h.thread k (h.before.steps t) (h.after.steps t) ((fact sys h r.1).steps t) (let e = ap (λ y. y.steps t) r.0 in omega arith) b

      go : (h.after.steps t ≤ k → Moment hs t k) → (k < h.after.steps t) ⊎ (h.after.steps t ≤ k) → Moment (h ∷ hs) t k
      go later (inl b) = record { step = h; is_in = inl refl; thread = (here b).0; steps = (here b).1 }
      go later (inr b) = let m = later b in record { step = m.step; is_in = inr m.is_in; thread = m.thread; steps = m.steps }

  pub more_places : (t : ℕ) (h : Happening V S) → IsStep sys h → h.before.places t ≤ h.after.places t
  more_places t h s = let e = (fact sys h s).places t in grind (arith, nat_tests)

  pub rise_places : (t : ℕ) (w : World V S) (hs : List (Happening V S)) (u p : World V S) → IsRun sys w hs u → IsPoint w hs p → w.places t ≤ p.places t
  rise_places t w [] u p r i = let e = ap (λ y. y.places t) i in omega arith
  rise_places t w (h ∷ hs) u p r (inl i) = let e = ap (λ y. y.places t) i in omega arith
  rise_places t w (h ∷ hs) u p r (inr i) =
      let e = ap (λ y. y.places t) r.0 in
      let m = more_places t h r.1 in
      let n = rise_places t h.after hs u p r.2 i in
      omega arith

  pub length_entries : (t : ℕ) (w : World V S) (hs : List (Happening V S)) (u : World V S) → IsRun sys w hs u → w.places t + length (entries_of t hs) ≡ u.places t
  length_entries t w [] u r = let e = ap (λ y. y.places t) r in omega arith
  length_entries t w (h ∷ hs) u r =
      let e = ap (λ y. y.places t) r.0 in
      let f = (fact sys h r.1).places t in
      let n = length_entries t h.after hs u r.2 in
      let c = count_own (h.thread == t) h.entry (entries_of t hs) in
      step (w.places t) (h.before.places t) (h.after.places t) (u.places t) h.thread (length (entries_of t hs)) (length (own (h.thread == t) h.entry (entries_of t hs))) (events_in h.entry) e f n c
    where
      step : (a b d u x l m k : ℕ) → b ≡ a → d ≡ cond (t == x) (b + k) b → d + l ≡ u → m ≡ cond (x == t) k 0 + l → a + m ≡ u
      step a b d u x l m k e f n c = grind (arith, nat_tests)

  pub entry_at : (w : World V S) (hs : List (Happening V S)) (u : World V S) → IsRun sys w hs u → (h : Happening V S) → IsIn h hs → (e : Entry) → h.entry ≡ Some e → (i : ℕ) → h.before.places h.thread ≡ w.places h.thread + i → slice_get (entries_of h.thread hs) i ≡ Some e
  entry_at w [] u r h m e q i p = absurd m
  entry_at w (x ∷ hs) u r h (inl m) e q i p = go (h.thread) (ap (λ y. y.thread) m) (let a = ap (λ y. y.before.places h.thread) m in let b = ap (λ y. y.places h.thread) r.0 in omega arith)
    where
      itself : (t x : ℕ) → t ≡ x → (x == t) ≡ true
      itself t x d = grind (arith, nat_tests)

      go : (t : ℕ) → t ≡ x.thread → i ≡ 0 → slice_get (own (x.thread == t) x.entry (entries_of t hs)) i ≡ Some e
      go t d z = rw (itself t x.thread d, (sym (ap (λ y. y.entry) m) ∙ q), z) refl
  entry_at w (x ∷ hs) u r h (inr m) e q i p =
      let t = h.thread in
      let a = ap (λ y. y.places t) r.0 in
      let f = (fact sys x r.1).places t in
      let b = more_places t x r.1 in
      let c = rise_places t x.after hs u h.before r.2 (before_in sys x.after hs u r.2 h m) in
      let j : ℕ = h.before.places t - x.after.places t in
      own_next x.thread t (x.before.places t) (x.after.places t) j x.entry (entries_of t hs) (Some e) b f i (omega arith) (entry_at x.after hs u r.2 h m e q j (omega arith))
