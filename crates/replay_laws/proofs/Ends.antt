-- A finished gated run ends as the run did.
use Rattle.replay_laws.specs.Log.{Log}
use Rattle.log_pieces.specs.declared.flat.Flat.TheVariants.{Known}
use Rattle.std.proofs.Common.{◌≡◌, ◌≢◌, ℕ, ◌<◌, ◌≤◌, cond, List, [], ◌∷◌, Some, refl, sym, ap, ◌∙◌, inl, inr, arith}
use Rattle.std.specs.Prelude.{◌⊎◌, nat_lt}
use Rattle.std.proofs.lemmas.Bool.Decides.{nat_tests}
use Rattle.replay_laws.proofs.System.{Mode, Absent, Reading, Writing, System}
use Rattle.replay_laws.proofs.Worlds.{World, version_after, Happening, meets, IsOpening, IsRun}
use Rattle.replay_laws.specs.Log.{IsBelowLog}
use Rattle.replay_laws.proofs.Logs.{IsFinished, IsSameEnd, end_of, end_at, log_of}
use Rattle.replay_laws.proofs.Facts.{fact}
use Rattle.replay_laws.proofs.Points.{IsIn, last, step_in, after_in, same, reaches, steps_counter, version_counter}
use Rattle.replay_laws.proofs.Match.{Way, below_end}
use Rattle.replay_laws.proofs.Way.{same_thread}
use Rattle.replay_laws.proofs.Counts.{own_step}
use Rattle.replay_laws.proofs.Gates.{IsMade, Gates, other_step}

module _ {V O R S : Type 0} (sys : System V O R S) where
  -- a version passes no bound that each write starts below
  pub version_bound : (o n : ℕ) (w : World V S) (hs : List (Happening V S)) (u : World V S) → IsRun sys w hs u → ((x : Happening V S) → IsIn x hs → meets x o ≡ Writing → x.before.version o < n) → w.version o ≤ n → u.version o ≤ n
  version_bound o n w [] u r b l = let e = ap (λ y. y.version o) r in omega arith
  version_bound o n w (x ∷ hs) u r b l = version_bound o n x.after hs u r.2 (λ y i. b y (inr i)) (go (meets x o) refl)
    where
      go : (k : Mode) → meets x o ≡ k → x.after.version o ≤ n
      go Absent e = let a = (fact sys x r.1).version o ∙ ap (λ j. version_after j (x.before.version o)) e in let c = ap (λ y. y.version o) r.0 in omega arith
      go Reading e = let a = (fact sys x r.1).version o ∙ ap (λ j. version_after j (x.before.version o)) e in let c = ap (λ y. y.version o) r.0 in omega arith
      go Writing e = let a = (fact sys x r.1).version o ∙ ap (λ j. version_after j (x.before.version o)) e in let c = b x (inl refl) e in omega arith

  pub steps_bound : (t n : ℕ) (w : World V S) (hs : List (Happening V S)) (u : World V S) → IsRun sys w hs u → ((x : Happening V S) → IsIn x hs → x.thread ≡ t → x.before.steps t < n) → w.steps t ≤ n → u.steps t ≤ n
  steps_bound t n w [] u r b l = let e = ap (λ y. y.steps t) r in omega arith
  steps_bound t n w (x ∷ hs) u r b l = steps_bound t n x.after hs u r.2 (λ y i. b y (inr i)) (go (same_thread t x.thread))
    where
      go : (t ≡ x.thread) ⊎ (t ≢ x.thread) → x.after.steps t ≤ n
      go (inl d) = let a = own_step t x.thread _ _ ((fact sys x r.1).steps t) (sym d) in let c = b x (inl refl) (sym d) in omega arith
      go (inr d) = let a = other_step t x.thread _ _ ((fact sys x r.1).steps t) d in let c = ap (λ y. y.steps t) r.0 in omega arith

  choose : {A : Type 0} (t n : ℕ) (a b : A) → t < n → cond (nat_lt t n) a b ≡ a
  choose t n a b l = grind (arith, nat_tests)

  pub end_here : (w : World V S) (t : ℕ) → t < sys.threads → end_at sys w t ≡ Some (Known (end_of sys w t))
  end_here w t l = choose t sys.threads _ _ l

  module _ (w : World V S) (hs : List (Happening V S)) (u : World V S) (r : IsRun sys w hs u) (opening : IsOpening w) (g : World V S) (way : Way sys w hs g) (gates : Gates hs g) where
    pub at_most : (o : ℕ) → g.version o ≤ u.version o
    at_most o = let v = way.recorded o in let a = reaches sys (λ y. y.version o) (λ y. y.value o) (version_counter sys o) w hs u v.point r v.is_point in let b = v.version in omega arith

    pub steps_most : (t : ℕ) → g.steps t ≤ u.steps t
    steps_most t = let v = way.stood t in let a = reaches sys (λ y. y.steps t) (λ y. y.state t) (steps_counter sys t) w hs u v.point r v.is_point in let b = v.steps in omega arith

    pub all_versions : ((x : Happening V S) → IsIn x hs → IsMade g x) → (o : ℕ) → g.version o ≡ u.version o
    all_versions all o =
        let a = version_bound o (g.version o) w hs u r (λ x i e. gates.ahead_write x i o e (all x i)) (let z = (opening o).2 in omega arith) in
        let b = at_most o in
        omega arith

    pub all_values : ((x : Happening V S) → IsIn x hs → IsMade g x) → (o : ℕ) → g.value o ≡ u.value o
    all_values all o =
        let v = way.recorded o in
        sym v.value ∙ same sys (λ y. y.version o) (λ y. y.value o) (version_counter sys o) w hs u v.point u r v.is_point (last sys w hs u r) (v.version ∙ all_versions all o)

    pub all_made : ((t : ℕ) → t < sys.threads → g.steps t ≡ u.steps t) → (x : Happening V S) → IsIn x hs → IsMade g x
    all_made e x i =
        let s = step_in sys w hs u r x i in
        let a = own_step x.thread x.thread _ _ ((fact sys x s).steps x.thread) refl in
        let b = reaches sys (λ y. y.steps x.thread) (λ y. y.state x.thread) (steps_counter sys x.thread) w hs u x.after r (after_in sys w hs u r x i) in
        let c = e x.thread s.exists in
        omega arith

    module _ (log : Log) (below : IsBelowLog log (log_of sys hs u)) (finished : IsFinished sys log g) where
      pub ends : (t : ℕ) → t < sys.threads → end_of sys g t ≡ end_of sys u t
      ends t l = below_end sys (log.end t) u t (end_of sys g t) l (below.ends t) (finished t l ∙ end_here g t l)

      -- the headline: memory, results and traps are the run's
      pub same_end : IsSameEnd sys g u
      same_end = (all_values (all_made (λ t l. ap (λ y. y.steps) (ends t l))), λ t l. ap (λ y. y.outcome) (ends t l))
