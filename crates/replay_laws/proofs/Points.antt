-- Counters along a run: what stays while a counter stays.
use Rattle.std.proofs.Common.{◌≡◌, ◌≢◌, ℕ, ◌+◌, ◌<◌, ◌≤◌, ◌==◌, cond, List, [], ◌∷◌, refl, sym, ap, ◌∙◌, inl, inr, arith}
use Rattle.std.specs.Prelude.{◌⊎◌}
use Rattle.std.proofs.lemmas.Bool.Decides.{nat_tests}
use Rattle.replay_laws.proofs.System.{Mode, Absent, Reading, Writing, System}
use Rattle.replay_laws.proofs.Worlds.{World, Happening, version_after, meets, IsStep, IsRun}
use Rattle.replay_laws.proofs.Logs.{IsPoint}
use Rattle.replay_laws.proofs.Facts.{fact}

abbrev pub IsIn : {A : Type 0} → A → List A → Type 0
IsIn x [] = ⊥
IsIn x (y ∷ ys) = (x ≡ y) ⊎ IsIn x ys

module _ {V S : Type 0} where
  pub first : (w : World V S) (hs : List (Happening V S)) → IsPoint w hs w
  first w [] = refl
  first w (h ∷ hs) = inl refl

module _ {V O R S : Type 0} (sys : System V O R S) where
  pub last : (w : World V S) (hs : List (Happening V S)) (u : World V S) → IsRun sys w hs u → IsPoint w hs u
  last w [] u r = sym r
  last w (h ∷ hs) u r = inr (last h.after hs u r.2)

  pub step_in : (w : World V S) (hs : List (Happening V S)) (u : World V S) → IsRun sys w hs u → (h : Happening V S) → IsIn h hs → IsStep sys h
  step_in w [] u r h i = absurd i
  step_in w (x ∷ hs) u r h (inl e) = rw e r.1
  step_in w (x ∷ hs) u r h (inr i) = step_in x.after hs u r.2 h i

  pub before_in : (w : World V S) (hs : List (Happening V S)) (u : World V S) → IsRun sys w hs u → (h : Happening V S) → IsIn h hs → IsPoint w hs h.before
  before_in w [] u r h i = absurd i
  before_in w (x ∷ hs) u r h (inl e) = inl (ap (λ y. y.before) e ∙ r.0)
  before_in w (x ∷ hs) u r h (inr i) = inr (before_in x.after hs u r.2 h i)

  pub after_in : (w : World V S) (hs : List (Happening V S)) (u : World V S) → IsRun sys w hs u → (h : Happening V S) → IsIn h hs → IsPoint w hs h.after
  after_in w [] u r h i = absurd i
  after_in w (x ∷ hs) u r h (inl e) = inr (rw e (first x.after hs))
  after_in w (x ∷ hs) u r h (inr i) = inr (after_in x.after hs u r.2 h i)

  -- each step keeps the counter and what it counts, or raises the counter
  abbrev pub IsCounter : {A : Type 0} → (World V S → ℕ) → (World V S → A) → Type 0
  IsCounter c f = (h : Happening V S) → IsStep sys h → ((c h.after ≡ c h.before) × (f h.after ≡ f h.before)) ⊎ (c h.before < c h.after)

  module _ {A : Type 0} (c : World V S → ℕ) (f : World V S → A) (k : IsCounter c f) where
    grows : (h : Happening V S) → ((c h.after ≡ c h.before) × (f h.after ≡ f h.before)) ⊎ (c h.before < c h.after) → c h.before ≤ c h.after
    grows h (inl e) = omega arith
    grows h (inr l) = omega arith

    pub rises : (w : World V S) (hs : List (Happening V S)) (u p : World V S) → IsRun sys w hs u → IsPoint w hs p → c w ≤ c p
    rises w [] u p r q = let e = ap c q in omega arith
    rises w (h ∷ hs) u p r (inl q) = let e = ap c q in omega arith
    rises w (h ∷ hs) u p r (inr q) =
        let e = ap c r.0 in
        let g = grows h (k h r.1) in
        let m = rises h.after hs u p r.2 q in
        omega arith

    pub reaches : (w : World V S) (hs : List (Happening V S)) (u p : World V S) → IsRun sys w hs u → IsPoint w hs p → c p ≤ c u
    reaches w [] u p r q = let e = ap c q in let d = ap c r in omega arith
    reaches w (h ∷ hs) u p r (inl q) = let e = ap c q in let d = rises w (h ∷ hs) u u r (inr (last h.after hs u r.2)) in omega arith
    reaches w (h ∷ hs) u p r (inr q) = reaches h.after hs u p r.2 q

    same_head : (h : Happening V S) (n : ℕ) → ((c h.after ≡ c h.before) × (f h.after ≡ f h.before)) ⊎ (c h.before < c h.after) → c h.after ≤ n → n ≡ c h.before → (c h.after ≡ c h.before) × (f h.after ≡ f h.before)
    same_head h n (inl e) l m = e
    same_head h n (inr g) l m = absurd (omega arith)

    pub same_first : (w : World V S) (hs : List (Happening V S)) (u p : World V S) → IsRun sys w hs u → IsPoint w hs p → c p ≡ c w → f p ≡ f w
    same_first w [] u p r q e = ap f q
    same_first w (h ∷ hs) u p r (inl q) e = ap f q
    same_first w (h ∷ hs) u p r (inr q) e =
        let s = same_head h (c p) (k h r.1) (rises h.after hs u p r.2 q) (e ∙ ap c (sym r.0)) in
        same_first h.after hs u p r.2 q (e ∙ ap c (sym r.0) ∙ sym s.0) ∙ s.1 ∙ ap f r.0

    pub same : (w : World V S) (hs : List (Happening V S)) (u p q : World V S) → IsRun sys w hs u → IsPoint w hs p → IsPoint w hs q → c p ≡ c q → f p ≡ f q
    same w [] u p q r i j e = ap f (i ∙ sym j)
    same w (h ∷ hs) u p q r (inl i) j e = ap f i ∙ sym (same_first w (h ∷ hs) u q r j (sym e ∙ ap c i))
    same w (h ∷ hs) u p q r (inr i) (inl j) e = same_first w (h ∷ hs) u p r (inr i) (e ∙ ap c j) ∙ ap f (sym j)
    same w (h ∷ hs) u p q r (inr i) (inr j) e = same h.after hs u p q r.2 i j e

    -- two steps that raise the counter from one number are one step
    pub unique : (w : World V S) (hs : List (Happening V S)) (u : World V S) (x y : Happening V S) → IsRun sys w hs u → IsIn x hs → IsIn y hs → c x.before < c x.after → c y.before < c y.after → c x.before ≡ c y.before → x ≡ y
    unique w [] u x y r i j a b e = absurd i
    unique w (h ∷ hs) u x y r (inl i) (inl j) a b e = i ∙ sym j
    unique w (h ∷ hs) u x y r (inl i) (inr j) a b e =
        let m = rises h.after hs u y.before r.2 (before_in h.after hs u r.2 y j) in
        let n = ap (λ z. c z.before) i in
        let o = ap (λ z. c z.after) i in
        absurd (omega arith)
    unique w (h ∷ hs) u x y r (inr i) (inl j) a b e =
        let m = rises h.after hs u x.before r.2 (before_in h.after hs u r.2 x i) in
        let n = ap (λ z. c z.before) j in
        let o = ap (λ z. c z.after) j in
        absurd (omega arith)
    unique w (h ∷ hs) u x y r (inr i) (inr j) a b e = unique h.after hs u x y r.2 i j a b e

  -- the counters of a world: a thread's steps, an object's version
  bumped : (x t n m : ℕ) → m ≡ cond (x == t) (n + 1) n → ((m ≡ n) × (x ≢ t)) ⊎ ((n < m) × (x ≡ t))
  bumped x t n m e = grind (arith, nat_tests)

  pub steps_counter : (t : ℕ) → IsCounter (λ w. w.steps t) (λ w. w.state t)
  steps_counter t h s =
      let f = fact sys h s in
      go (bumped t h.thread (h.before.steps t) (h.after.steps t) (f.steps t))
    where
      go : ((h.after.steps t ≡ h.before.steps t) × (t ≢ h.thread)) ⊎ ((h.before.steps t < h.after.steps t) × (t ≡ h.thread)) → ((h.after.steps t ≡ h.before.steps t) × (h.after.state t ≡ h.before.state t)) ⊎ (h.before.steps t < h.after.steps t)
      go (inl (e, d)) = inl (e, (fact sys h s).stays t d)
      go (inr (l, d)) = inr l

  pub places_counter : (t : ℕ) → IsCounter (λ w. w.steps t) (λ w. w.places t)
  places_counter t h s = go (bumped t h.thread (h.before.steps t) (h.after.steps t) ((fact sys h s).steps t))
    where
      other : (x y n m k : ℕ) → m ≡ cond (x == y) (n + k) n → x ≢ y → m ≡ n
      other x y n m k e d = grind (arith, nat_tests)

      go : ((h.after.steps t ≡ h.before.steps t) × (t ≢ h.thread)) ⊎ ((h.before.steps t < h.after.steps t) × (t ≡ h.thread)) → ((h.after.steps t ≡ h.before.steps t) × (h.after.places t ≡ h.before.places t)) ⊎ (h.before.steps t < h.after.steps t)
      go (inl (e, d)) = inl (e, other t h.thread (h.before.places t) (h.after.places t) _ ((fact sys h s).places t) d)
      go (inr (l, d)) = inr l

  pub version_counter : (o : ℕ) → IsCounter (λ w. w.version o) (λ w. w.value o)
  version_counter o h s = go (meets h o) refl
    where
      go : (m : Mode) → meets h o ≡ m → ((h.after.version o ≡ h.before.version o) × (h.after.value o ≡ h.before.value o)) ⊎ (h.before.version o < h.after.version o)
      go Absent e = inl ((fact sys h s).version o ∙ ap (λ m. version_after m (h.before.version o)) e, (fact sys h s).kept o (λ d. absurd (cc)))
      go Reading e = inl ((fact sys h s).version o ∙ ap (λ m. version_after m (h.before.version o)) e, (fact sys h s).kept o (λ d. absurd (cc)))
      go Writing e = inr (let v = (fact sys h s).version o ∙ ap (λ m. version_after m (h.before.version o)) e in omega arith)
