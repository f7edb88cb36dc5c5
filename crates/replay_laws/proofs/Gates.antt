-- Which steps of the run were made, by versions and read totals.
use Rattle.replay_laws.specs.Log.{Log}
use Rattle.std.proofs.Common.{◌≡◌, ◌≢◌, ℕ, ◌+◌, ◌<◌, ◌≤◌, ◌==◌, Bool, true, false, cond, List, [], ◌∷◌, refl, sym, ap, ◌∙◌, subst, inl, inr, arith}
use Rattle.std.specs.Prelude.{◌⊎◌, ◌&&◌, nat_lt}
use Rattle.std.proofs.lemmas.Bool.{cases_lt}
use Rattle.std.proofs.lemmas.Bool.Decides.{nat_tests}
use Rattle.replay_laws.proofs.System.{Mode, Absent, Reading, Writing, mode, System, IsNear}
use Rattle.replay_laws.proofs.Worlds.{World, version_after, reads_after, Happening, touches_in, meets, IsOpening, IsStep, IsRun}
use Rattle.replay_laws.specs.Log.{IsBelowLog}
use Rattle.replay_laws.proofs.Logs.{IsGated, log_of}
use Rattle.replay_laws.proofs.Facts.{fact}
use Rattle.replay_laws.proofs.Points.{IsIn, step_in, before_in, after_in, rises, reaches, unique, steps_counter, version_counter}
use Rattle.replay_laws.proofs.Match.{Way, Match}
use Rattle.replay_laws.proofs.Way.{same_thread, match_at, way_next}
use Rattle.replay_laws.proofs.Counts.{count, is_reading, reads_at, base_none, own_step, count_none, count_same, count_all, count_more, reads_found}

-- the thread of x has made step x
abbrev pub IsMade : {V S : Type 0} → World V S → Happening V S → Type 0
IsMade g x = x.before.steps x.thread < g.steps x.thread

abbrev pub made : {V S : Type 0} → World V S → Happening V S → Bool
made g x = nat_lt (x.before.steps x.thread) (g.steps x.thread)

abbrev pub read_made : {V S : Type 0} → World V S → ℕ → ℕ → Happening V S → Bool
read_made g o n x = made g x && reads_at o n x

pub record Gates {V S : Type 0} (hs : List (Happening V S)) (g : World V S) : Type 0 where
  pub past : (x : Happening V S) → IsIn x hs → (o : ℕ) → meets x o ≢ Absent → x.before.version o < g.version o → IsMade g x
  pub ahead_write : (x : Happening V S) → IsIn x hs → (o : ℕ) → meets x o ≡ Writing → IsMade g x → x.before.version o < g.version o
  pub ahead_read : (x : Happening V S) → IsIn x hs → (o : ℕ) → meets x o ≡ Reading → IsMade g x → x.before.version o ≤ g.version o
  pub total : (o : ℕ) → g.reads o ≡ count (read_made g o (g.version o)) hs

not_made : (a b : ℕ) (c : Bool) → b ≤ a → (nat_lt a b && c) ≡ false
not_made a b c l = grind (arith, nat_tests)

is_made : (a b : ℕ) (c : Bool) → (nat_lt a b && c) ≡ true → a < b
is_made a b c e = grind (arith, nat_tests)

and_right : (a b : Bool) → (a && b) ≡ true → b ≡ true
and_right true b e = e
and_right false b e = absurd (cc)

and_false : (a b : Bool) → (a ≡ true → b ≡ true → ⊥) → (a && b) ≡ false
and_false true true h = absurd (h refl refl)
and_false true false h = refl
and_false false b h = refl

and_none : (a : Bool) → (a && false) ≡ false
and_none true = refl
and_none false = refl

lt_made : (a b : ℕ) → nat_lt a b ≡ true → a < b
lt_made a b e = grind (arith, nat_tests)

pub made_lt : (a b : ℕ) → a < b → nat_lt a b ≡ true
made_lt a b l = grind (arith, nat_tests)

same_lt : (a b c : ℕ) → (a < b → a < c) → (a < c → a < b) → nat_lt a b ≡ nat_lt a c
same_lt a b c f g = grind (arith, nat_tests)

pub is_read : (m : Mode) (n k : ℕ) → (is_reading m && (n == k)) ≡ true → (m ≡ Reading) × (n ≡ k)
is_read Absent n k e = absurd (cc)
is_read Reading n k e = (refl, grind (arith, nat_tests))
is_read Writing n k e = absurd (cc)

read_is : (m : Mode) (n k : ℕ) → m ≡ Reading → n ≡ k → (is_reading m && (n == k)) ≡ true
read_is m n k e d = rw e (grind (arith, nat_tests))

pub other_step : (t x n m : ℕ) → m ≡ cond (t == x) (n + 1) n → t ≢ x → m ≡ n
other_step t x n m e d = grind (arith, nat_tests)

module _ {V O R S : Type 0} (sys : System V O R S) (w : World V S) (hs : List (Happening V S)) (u : World V S) (r : IsRun sys w hs u) (opening : IsOpening w) where
  never : (x : Happening V S) → IsIn x hs → w.steps x.thread ≤ x.before.steps x.thread
  never x i = rises sys (λ z. z.steps x.thread) (λ z. z.state x.thread) (steps_counter sys x.thread) w hs u x.before r (before_in sys w hs u r x i)

  pub gates_start : Gates hs w
  gates_start =
      record {
        past = λ x i o d l. let a = (opening o).2 in absurd (omega arith);
        ahead_write = λ x i o d l. let a = never x i in absurd (omega arith);
        ahead_read = λ x i o d l. let a = never x i in absurd (omega arith);
        total = λ o. (opening o).3 ∙ sym (count_none (read_made w o (w.version o)) hs (λ x i. not_made _ _ _ (never x i)));
      }

  raise_own : (x : Happening V S) → IsIn x hs → (t : ℕ) → x.thread ≡ t → x.before.steps t < x.after.steps t
  raise_own x i t d = let e = own_step t x.thread _ _ ((fact sys x (step_in sys w hs u r x i)).steps t) d in omega arith

  raise_write : (x : Happening V S) → IsIn x hs → (o : ℕ) → meets x o ≡ Writing → x.before.version o < x.after.version o
  raise_write x i o d = let e = (fact sys x (step_in sys w hs u r x i)).version o ∙ ap (λ k. version_after k (x.before.version o)) d in omega arith

  module _ (h : Happening V S) (s : IsStep sys h) (m : Match sys hs h) where
    kept : (x : Happening V S) → IsMade h.before x → IsMade h.after x
    kept x l = let e = (fact sys h s).steps x.thread in grind (arith, nat_tests)

    made_now : IsMade h.after m.step
    made_now =
        let e = own_step h.thread h.thread _ _ ((fact sys h s).steps h.thread) refl in
        let a = ap (λ t. m.step.before.steps t) m.thread in
        let b = ap (λ t. h.after.steps t) m.thread in
        let c = m.steps in
        omega arith

    not_before : IsMade h.before m.step → ⊥
    not_before l =
        let a = ap (λ t. m.step.before.steps t) m.thread in
        let b = ap (λ t. h.before.steps t) m.thread in
        let c = m.steps in
        omega arith

    this : (x : Happening V S) → IsIn x hs → x.thread ≡ h.thread → x.before.steps h.thread ≡ h.before.steps h.thread → x ≡ m.step
    this x i d e =
        unique sys (λ z. z.steps h.thread) (λ z. z.state h.thread) (steps_counter sys h.thread) w hs u x m.step r i m.is_in (raise_own x i h.thread d) (raise_own m.step m.is_in h.thread m.thread) (e ∙ sym m.steps)

    newly : (x : Happening V S) → IsIn x hs → IsMade h.after x → IsMade h.before x ⊎ (x ≡ m.step)
    newly x i l = go (same_thread x.thread h.thread) (cases_lt (x.before.steps x.thread) (h.before.steps x.thread))
      where
        go : (x.thread ≡ h.thread) ⊎ (x.thread ≢ h.thread) → (x.before.steps x.thread < h.before.steps x.thread) ⊎ (h.before.steps x.thread ≤ x.before.steps x.thread) → IsMade h.before x ⊎ (x ≡ m.step)
        go d (inl c) = inl c
        go (inr d) (inr c) = let e = other_step x.thread h.thread _ _ ((fact sys h s).steps x.thread) d in absurd (omega arith)
        go (inl d) (inr c) =
            let e = own_step x.thread h.thread _ _ ((fact sys h s).steps x.thread) (sym d) in
            let n : x.before.steps x.thread ≡ h.before.steps x.thread = omega arith in
            inr (this x i d (ap (λ t. x.before.steps t) (sym d) ∙ n ∙ ap (λ t. h.before.steps t) d))

    same_meets : (o : ℕ) → meets m.step o ≡ meets h o
    same_meets o = ap (λ y. mode (touches_in y) o) m.entry

    -- the version and total that h leaves
    version_is : (o : ℕ) (k : Mode) → meets h o ≡ k → h.after.version o ≡ version_after k (h.before.version o)
    version_is o k e = (fact sys h s).version o ∙ ap (λ j. version_after j (h.before.version o)) e

    reads_is : (o : ℕ) (k : Mode) → meets h o ≡ k → h.after.reads o ≡ reads_after k (h.before.reads o)
    reads_is o k e = (fact sys h s).reads o ∙ ap (λ j. reads_after j (h.before.reads o)) e

    module _ (g : Gates hs h.before) where
      -- at a write every read of its version was made
      all_read : (o : ℕ) → meets h o ≡ Writing → (x : Happening V S) → IsIn x hs → meets x o ≡ Reading → x.before.version o ≡ h.before.version o → IsMade h.before x
      all_read o e x i d v =
          let n = m.step.before.version o in
          let q : h.before.version o ≡ n = m.version o (λ c. absurd (let z : Absent ≡ Writing = sym c ∙ e in cc)) in
          let a = reads_found sys o w hs u r m.step m.is_in (same_meets o ∙ e) (let z = (opening o).2 in omega arith) in
          let b = base_none o n w (opening o).3 in
          let c = m.reads o e in
          let f : h.before.reads o ≡ count (read_made h.before o n) hs = g.total o ∙ ap (λ k. count (read_made h.before o k) hs) q in
          let k : count (read_made h.before o n) hs ≡ count (reads_at o n) hs = omega arith in
          is_made _ _ _ (count_all (read_made h.before o n) (reads_at o n) hs (λ y j t. and_right (made h.before y) (reads_at o n y) t) k x i (read_is (meets x o) (x.before.version o) n d (v ∙ q)))

      past_next : (x : Happening V S) → IsIn x hs → (o : ℕ) → meets x o ≢ Absent → x.before.version o < h.after.version o → IsMade h.after x
      past_next x i o d l = go (meets h o) refl
        where
          at : (k : Mode) → meets x o ≡ k → meets h o ≡ Writing → x.before.version o ≡ h.before.version o → IsMade h.after x
          at Absent p e v = absurd (d p)
          at Reading p e v = kept x (all_read o e x i p v)
          at Writing p e v =
              let q = m.version o (λ c. absurd (let z : Absent ≡ Writing = sym c ∙ e in cc)) in
              let y = unique sys (λ z. z.version o) (λ z. z.value o) (version_counter sys o) w hs u x m.step r i m.is_in (raise_write x i o p) (raise_write m.step m.is_in o (same_meets o ∙ e)) (v ∙ q) in
              rw y made_now

          split : meets h o ≡ Writing → (x.before.version o < h.before.version o) ⊎ (h.before.version o ≤ x.before.version o) → IsMade h.after x
          split e (inl c) = kept x (g.past x i o d c)
          split e (inr c) = at (meets x o) refl e (let q = version_is o Writing e in omega arith)

          go : (k : Mode) → meets h o ≡ k → IsMade h.after x
          go Absent e = kept x (g.past x i o d (let q = version_is o Absent e in omega arith))
          go Reading e = kept x (g.past x i o d (let q = version_is o Reading e in omega arith))
          go Writing e = split e (cases_lt (x.before.version o) (h.before.version o))

      grown : (o : ℕ) → h.before.version o ≤ h.after.version o
      grown o = go (meets h o) refl
        where
          go : (k : Mode) → meets h o ≡ k → h.before.version o ≤ h.after.version o
          go Absent e = let q = version_is o Absent e in omega arith
          go Reading e = let q = version_is o Reading e in omega arith
          go Writing e = let q = version_is o Writing e in omega arith

      ahead_write_next : (x : Happening V S) → IsIn x hs → (o : ℕ) → meets x o ≡ Writing → IsMade h.after x → x.before.version o < h.after.version o
      ahead_write_next x i o d l = go (newly x i l)
        where
          go : IsMade h.before x ⊎ (x ≡ m.step) → x.before.version o < h.after.version o
          go (inl c) = let a = g.ahead_write x i o d c in let b = grown o in omega arith
          go (inr y) =
              let e : meets h o ≡ Writing = sym (same_meets o) ∙ sym (ap (λ z. meets z o) y) ∙ d in
              let q = m.version o (λ c. absurd (let z : Absent ≡ Writing = sym c ∙ e in cc)) in
              let b = version_is o Writing e in
              let a = ap (λ z. z.before.version o) y in
              omega arith

      ahead_read_next : (x : Happening V S) → IsIn x hs → (o : ℕ) → meets x o ≡ Reading → IsMade h.after x → x.before.version o ≤ h.after.version o
      ahead_read_next x i o d l = go (newly x i l)
        where
          go : IsMade h.before x ⊎ (x ≡ m.step) → x.before.version o ≤ h.after.version o
          go (inl c) = let a = g.ahead_read x i o d c in let b = grown o in omega arith
          go (inr y) =
              let e : meets h o ≡ Reading = sym (same_meets o) ∙ sym (ap (λ z. meets z o) y) ∙ d in
              let q = m.version o (λ c. absurd (let z : Absent ≡ Reading = sym c ∙ e in cc)) in
              let b = version_is o Reading e in
              let a = ap (λ z. z.before.version o) y in
              omega arith

      same_made : (x : Happening V S) → IsIn x hs → (x.thread ≡ h.thread → x.before.steps h.thread ≢ h.before.steps h.thread) → made h.after x ≡ made h.before x
      same_made x i d = same_lt _ _ _ (λ l. go l (newly x i l)) (kept x)
        where
          go : IsMade h.after x → IsMade h.before x ⊎ (x ≡ m.step) → IsMade h.before x
          go l (inl c) = c
          go l (inr y) =
              let a : x.thread ≡ h.thread = ap (λ z. z.thread) y ∙ m.thread in
              absurd (d a (ap (λ z. z.before.steps h.thread) y ∙ m.steps))

      total_next : (o : ℕ) → h.after.reads o ≡ count (read_made h.after o (h.after.version o)) hs
      total_next o = go (meets h o) refl
        where
          n : ℕ
          n = h.before.version o

          still : meets h o ≡ Absent → (x : Happening V S) → IsIn x hs → IsMade h.after x ⊎ (h.after.steps x.thread ≤ x.before.steps x.thread) → read_made h.before o n x ≡ read_made h.after o n x
          still e x i (inr c) = not_made _ _ _ (let q = cases_lt (x.before.steps x.thread) (h.before.steps x.thread) in go q) ∙ sym (not_made _ _ _ c)
            where
              go : (x.before.steps x.thread < h.before.steps x.thread) ⊎ (h.before.steps x.thread ≤ x.before.steps x.thread) → h.before.steps x.thread ≤ x.before.steps x.thread
              go (inl l) = let k = kept x l in absurd (omega arith)
              go (inr l) = l
          still e x i (inl c) = go (newly x i c)
            where
              go : IsMade h.before x ⊎ (x ≡ m.step) → read_made h.before o n x ≡ read_made h.after o n x
              go (inl b) = ap (λ k. k && reads_at o n x) (made_lt _ _ b ∙ sym (made_lt _ _ c))
              go (inr y) =
                  let k : meets x o ≡ Absent = ap (λ z. meets z o) y ∙ same_meets o ∙ e in
                  let f : reads_at o n x ≡ false = ap (λ j. is_reading j && (x.before.version o == n)) k in
                  rw (f, and_none (made h.before x), and_none (made h.after x)) refl

          none : meets h o ≡ Writing → (x : Happening V S) → IsIn x hs → IsMade h.after x → (meets x o ≡ Reading) × (x.before.version o ≡ h.after.version o) → ⊥
          none e x i l q = go (newly x i l)
            where
              go : IsMade h.before x ⊎ (x ≡ m.step) → ⊥
              go (inl c) = let a = g.ahead_read x i o q.0 c in let b = version_is o Writing e in let d = q.1 in omega arith
              go (inr y) = let a : Reading ≡ Writing = sym q.0 ∙ ap (λ z. meets z o) y ∙ same_meets o ∙ e in cc

          go : (k : Mode) → meets h o ≡ k → h.after.reads o ≡ count (read_made h.after o (h.after.version o)) hs
          go Absent e =
              reads_is o Absent e ∙ g.total o ∙ count_same _ _ hs (λ x i. still e x i (cases_lt _ _)) ∙ ap (λ k. count (read_made h.after o k) hs) (sym (version_is o Absent e))
          go Reading e =
              let v = m.version o (λ c. absurd (let z : Absent ≡ Reading = sym c ∙ e in cc)) in
              let more = count_more sys h.thread (h.before.steps h.thread) (read_made h.before o n) (read_made h.after o n) w hs u r
              (let a = (opening h.thread).0 in omega arith)
              (let a = raise_own m.step m.is_in h.thread m.thread in let b = m.steps in
              let c = reaches sys (λ z. z.steps h.thread) (λ z. z.state h.thread) (steps_counter sys h.thread) w hs u m.step.after r (after_in sys w hs u r m.step m.is_in) in omega arith)
              (λ x i d. ap (λ k. k && reads_at o n x) (same_made x i d))
              (λ x i d f.
              let y = this x i d f in
              let a : meets x o ≡ Reading = ap (λ z. meets z o) y ∙ same_meets o ∙ e in
              let b : x.before.version o ≡ n = ap (λ z. z.before.version o) y ∙ sym v in
              let c : IsMade h.after x = rw y made_now in
              let k : h.before.steps x.thread ≤ x.before.steps x.thread = rw d (let j = f in omega arith) in
              (not_made _ _ _ k, rw (made_lt _ _ c) (read_is (meets x o) (x.before.version o) n a b))) in
              reads_is o Reading e ∙ ap (λ k. k + 1) (g.total o) ∙ sym more ∙ ap (λ k. count (read_made h.after o k) hs) (sym (version_is o Reading e))
          go Writing e =
              reads_is o Writing e ∙ sym (count_none _ hs (λ x i. and_false (made h.after x) (reads_at o (h.after.version o) x) (λ p q. none e x i (lt_made _ _ p) (is_read (meets x o) (x.before.version o) (h.after.version o) q))))

      pub gates_next : Gates hs h.after
      gates_next = record { past = past_next; ahead_write = ahead_write_next; ahead_read = ahead_read_next; total = total_next }

  module _ (laws : IsNear sys) (log : Log) (below : IsBelowLog log (log_of sys hs u)) where
    -- at every point of every gated run
    pub gates : (v : World V S) (gs : List (Happening V S)) (g : World V S) → Way sys w hs v → Gates hs v → IsGated sys log v gs g → Gates hs g
    gates v [] g a b q = subst (Gates hs) q b
    gates v (h ∷ gs) g a b q =
        gates h.after gs g (way_next sys w hs u r opening laws log below v a h q.0 q.1 q.2) (gates_next h q.1 (match_at sys w hs u r opening laws log below v a h q.0 q.1 q.2) (rw q.0 b)) q.3
