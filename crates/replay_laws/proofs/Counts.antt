-- How many steps of a run pass a test.
use Rattle.std.proofs.Common.{◌≡◌, ◌≢◌, ℕ, ◌+◌, ◌<◌, ◌≤◌, ◌==◌, Bool, true, false, cond, List, [], ◌∷◌, refl, sym, ap, ◌∙◌, inl, inr, arith}
use Rattle.std.specs.Prelude.{◌⊎◌, ◌&&◌}
use Rattle.std.proofs.lemmas.Bool.{cases_lt}
use Rattle.std.proofs.lemmas.Bool.Decides.{nat_tests}
use Rattle.replay_laws.proofs.System.{Mode, Absent, Reading, Writing, System}
use Rattle.replay_laws.proofs.Worlds.{World, version_after, reads_after, Happening, meets, IsStep, IsRun}
use Rattle.replay_laws.proofs.Facts.{Fact, fact}
use Rattle.replay_laws.proofs.Points.{IsIn, step_in, before_in, rises, steps_counter, version_counter}
use Rattle.replay_laws.proofs.Places.{this_step}

abbrev pub one : Bool → ℕ
one true = 1
one false = 0

abbrev pub count : {A : Type 0} → (A → Bool) → List A → ℕ
count p [] = 0
count p (x ∷ xs) = one (p x) + count p xs

below_one : (a b : Bool) → (a ≡ true → b ≡ true) → one a ≤ one b
below_one true b h = rw (h refl) (omega arith)
below_one false b h = omega arith

same_one : (a b : Bool) → one a ≡ one b → b ≡ true → a ≡ true
same_one true b e t = refl
same_one false true e t = let z : ◌≡◌ {A = ℕ} 0 1 = e in absurd (omega arith)
same_one false false e t = t

-- a read of object o at version n
abbrev pub is_reading : Mode → Bool
is_reading Absent = false
is_reading Reading = true
is_reading Writing = false

abbrev pub reads_at : {V S : Type 0} → ℕ → ℕ → Happening V S → Bool
reads_at o n h = is_reading (meets h o) && (h.before.version o == n)

pub base : {V S : Type 0} → ℕ → ℕ → World V S → ℕ
base o n w = cond (w.version o == n) (w.reads o) 0

module _ {A : Type 0} where
  pub count_none : (p : A → Bool) (xs : List A) → ((x : A) → IsIn x xs → p x ≡ false) → count p xs ≡ 0
  count_none p [] h = refl
  count_none p (x ∷ xs) h = rw (h x (inl refl), count_none p xs (λ y i. h y (inr i)))

  pub count_same : (p q : A → Bool) (xs : List A) → ((x : A) → IsIn x xs → p x ≡ q x) → count p xs ≡ count q xs
  count_same p q [] h = refl
  count_same p q (x ∷ xs) h = rw (h x (inl refl), count_same p q xs (λ y i. h y (inr i)))

  pub count_below : (p q : A → Bool) (xs : List A) → ((x : A) → IsIn x xs → p x ≡ true → q x ≡ true) → count p xs ≤ count q xs
  count_below p q [] h = omega arith
  count_below p q (x ∷ xs) h =
      let a = below_one (p x) (q x) (h x (inl refl)) in
      let b = count_below p q xs (λ y i. h y (inr i)) in
      omega arith

  -- where they pass as many, they pass the same
  pub count_all : (p q : A → Bool) (xs : List A) → ((x : A) → IsIn x xs → p x ≡ true → q x ≡ true) → count p xs ≡ count q xs → (y : A) → IsIn y xs → q y ≡ true → p y ≡ true
  count_all p q [] h e y i t = absurd i
  count_all p q (x ∷ xs) h e y (inl i) t =
      let a = below_one (p x) (q x) (h x (inl refl)) in
      let b = count_below p q xs (λ y i. h y (inr i)) in
      let c : one (p x) ≡ one (q x) = omega arith in
      rw i (same_one (p x) (q x) c (rw i at t))
  count_all p q (x ∷ xs) h e y (inr i) t =
      let a = below_one (p x) (q x) (h x (inl refl)) in
      let b = count_below p q xs (λ y i. h y (inr i)) in
      count_all p q xs (λ y i. h y (inr i)) (omega arith) y i t

pub own_step : (t x n m : ℕ) → m ≡ cond (t == x) (n + 1) n → x ≡ t → m ≡ n + 1
own_step t x n m e d = grind (arith, nat_tests)

away : (a : Bool) (n m : ℕ) → n ≢ m → (a && (n == m)) ≡ false
away a n m d = grind (arith, nat_tests)

module _ {V S : Type 0} where
  base_at : (o n : ℕ) (w : World V S) → w.version o ≡ n → base o n w ≡ w.reads o
  unfolding base
  base_at o n w e = grind (arith, nat_tests)

  base_off : (o n : ℕ) (w : World V S) → w.version o ≢ n → base o n w ≡ 0
  unfolding base
  base_off o n w e = grind (arith, nat_tests)

  pub base_none : (o n : ℕ) (w : World V S) → w.reads o ≡ 0 → base o n w ≡ 0
  unfolding base
  base_none o n w e = grind (arith, nat_tests)

module _ {V O R S : Type 0} (sys : System V O R S) where
  IsNext : ℕ → ℕ → Happening V S → Type 0
  IsNext t k x = (x.thread ≡ t) × (x.before.steps t ≡ k)

  -- one test passes thread t's step after k steps, the other does not, and else they agree
  pub count_more : (t k : ℕ) (p q : Happening V S → Bool) (w : World V S) (hs : List (Happening V S)) (u : World V S) → IsRun sys w hs u → w.steps t ≤ k → k < u.steps t
      → ((x : Happening V S) → IsIn x hs → (x.thread ≡ t → x.before.steps t ≢ k) → q x ≡ p x)
      → ((x : Happening V S) → IsIn x hs → x.thread ≡ t → x.before.steps t ≡ k → (p x ≡ false) × (q x ≡ true))
      → count q hs ≡ count p hs + 1
  count_more t k p q w [] u r l g a b = let e = ap (λ y. y.steps t) r in absurd (omega arith)
  count_more t k p q w (x ∷ hs) u r l g a b = go (λ c. count_more t k p q x.after hs u r.2 c g (λ y i. a y (inr i)) (λ y i. b y (inr i))) (cases_lt k (x.after.steps t))
    where
      f : x.after.steps t ≡ cond (t == x.thread) (x.before.steps t + 1) (x.before.steps t)
      f = (fact sys x r.1).steps t

      here : k < x.after.steps t → (x.thread ≡ t) × (x.before.steps t ≡ k)
      here c = this_step t x.thread k (x.before.steps t) (x.after.steps t) f (let e = ap (λ y. y.steps t) r.0 in omega arith) c

      rest : k < x.after.steps t → (y : Happening V S) → IsIn y hs → q y ≡ p y
      rest c y i = a y (inr i) (λ d e. let m = rises sys (λ z. z.steps t) (λ z. z.state t) (steps_counter sys t) x.after hs u y.before r.2 (before_in sys x.after hs u r.2 y i) in omega arith)

      go : (x.after.steps t ≤ k → count q hs ≡ count p hs + 1) → (k < x.after.steps t) ⊎ (x.after.steps t ≤ k) → one (q x) + count q hs ≡ one (p x) + count p hs + 1
      go ih (inl c) =
          let d = b x (inl refl) (here c).0 (here c).1 in
          rw (d.0, d.1, count_same q p hs (rest c)) (omega arith)
      go ih (inr c) =
          let d = a x (inl refl) (λ d e. let n = own_step t x.thread (x.before.steps t) (x.after.steps t) f d in omega arith) in
          let i = ih c in
          rw d (omega arith)

  -- one step, up to the write that ends version n
  base_step : (o n : ℕ) (x : Happening V S) → IsStep sys x → x.after.version o ≤ n → base o n x.before + one (reads_at o n x) ≡ base o n x.after
  unfolding base
  base_step o n x s l = go (meets x o) refl
    where
      f : Fact x
      f = fact sys x s

      ver : (m : Mode) → meets x o ≡ m → x.after.version o ≡ version_after m (x.before.version o)
      ver m e = f.version o ∙ ap (λ k. version_after k (x.before.version o)) e

      red : (m : Mode) → meets x o ≡ m → x.after.reads o ≡ reads_after m (x.before.reads o)
      red m e = f.reads o ∙ ap (λ k. reads_after k (x.before.reads o)) e

      sum_absent : (v v' a a' : ℕ) → v' ≡ v → a' ≡ a → cond (v == n) a 0 + 0 ≡ cond (v' == n) a' 0
      sum_absent v v' a a' e g = grind (arith, nat_tests)

      sum_reading : (v v' a a' : ℕ) → v' ≡ v → a' ≡ a + 1 → cond (v == n) a 0 + one (v == n) ≡ cond (v' == n) a' 0
      sum_reading v v' a a' e g = grind (arith, nat_tests)

      sum_writing : (v v' a a' : ℕ) → v' ≡ v + 1 → v' ≤ n → a' ≡ 0 → cond (v == n) a 0 + 0 ≡ cond (v' == n) a' 0
      sum_writing v v' a a' e l g = grind (arith, nat_tests)

      go : (m : Mode) → meets x o ≡ m → base o n x.before + one (reads_at o n x) ≡ base o n x.after
      go Absent e = rw e (sum_absent (x.before.version o) (x.after.version o) (x.before.reads o) (x.after.reads o) (ver Absent e) (red Absent e))
      go Reading e = rw e (sum_reading (x.before.version o) (x.after.version o) (x.before.reads o) (x.after.reads o) (ver Reading e) (red Reading e))
      go Writing e = rw e (sum_writing (x.before.version o) (x.after.version o) (x.before.reads o) (x.after.reads o) (ver Writing e) (let q = ver Writing e in omega arith) (red Writing e))

  -- a write finds as many reads as its version has
  pub reads_found : (o : ℕ) (w : World V S) (hs : List (Happening V S)) (u : World V S) → IsRun sys w hs u → (y : Happening V S) → IsIn y hs → meets y o ≡ Writing → w.version o ≤ y.before.version o → base o (y.before.version o) w + count (reads_at o (y.before.version o)) hs ≡ y.before.reads o
  reads_found o w [] u r y i e l = absurd i
  reads_found o w (x ∷ hs) u r y (inl i) e l =
      let n = y.before.version o in
      let v : w.version o ≡ n = ap (λ z. z.version o) (sym r.0) ∙ ap (λ z. z.before.version o) (sym i) in
      let here : reads_at o n x ≡ false = rw (sym (ap (λ z. meets z o) i) ∙ e) refl in
      let grown : x.after.version o ≡ n + 1 = ap (λ z. z.after.version o) (sym i) ∙ (fact sys y (step_in sys w (x ∷ hs) u r y (inl i))).version o ∙ ap (λ k. version_after k n) e in
      let rest = count_none (reads_at o n) hs (λ z j. away (is_reading (meets z o)) (z.before.version o) n (let q = rises sys (λ a. a.version o) (λ a. a.value o) (version_counter sys o) x.after hs u z.before r.2 (before_in sys x.after hs u r.2 z j) in omega arith)) in
      let b = base_at o n w v in
      let c : w.reads o ≡ y.before.reads o = ap (λ z. z.reads o) (sym r.0) ∙ ap (λ z. z.before.reads o) (sym i) in
      rw here (omega arith)
  reads_found o w (x ∷ hs) u r y (inr i) e l =
      let n = y.before.version o in
      let q = rises sys (λ a. a.version o) (λ a. a.value o) (version_counter sys o) x.after hs u y.before r.2 (before_in sys x.after hs u r.2 y i) in
      let a = base_step o n x r.1 q in
      let b = reads_found o x.after hs u r.2 y i e q in
      let c = ap (base o n) r.0 in
      omega arith
