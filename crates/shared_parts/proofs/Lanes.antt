-- The objects of one part, touch by touch.
use Rattle.std.proofs.Common.{◌≡◌, ◌≢◌, ℕ, zero, suc, ◌+◌, ◌*◌, ◌/◌, ◌%◌, ◌<◌, ◌≤◌, ◌==◌, Bool, true, false, cond, List, [], ◌∷◌, length, get_or, drop, drop-cons, add-one, refl, sym, ap, ◌∙◌, arith, inl, inr, Some}
use Rattle.std.proofs.lemmas.Bool.{eq-eqb}
use Rattle.std.proofs.lemmas.Bool.Decides.{eqb_tells, nat_tests}
use Rattle.rw_objects.specs.declared.touch.Touch.{Touch}
use Rattle.rw_objects.specs.declared.touch.Mode.{Mode}
use Rattle.rw_objects.specs.declared.touch.Mode.TheVariants.{Read, Write}
use Rattle.rw_objects.specs.Space.{mode_at, is_written, RisesFrom}
use Rattle.rw_objects.proofs.CountingTouches.{none_below}
use Rattle.shared_parts.specs.Parts.{set_at, after_touch, after_touches}

pub drop_here : (ts : List Touch) (i : ℕ) (d : Touch) → i < length ts → drop i ts ≡ get_or ts i d ∷ drop (i + 1) ts
drop_here ts i d h = rw add-one (drop-cons ts i d h)

-- the objects rise
least : (n : ℕ) (ts : List Touch) (k : ℕ) (d : Touch) → RisesFrom n ts → k < length ts → n ≤ (get_or ts k d).object
least n [] k d r h = absurd (omega (arith, h))
least n (t ∷ ts) zero d r h = r.0
least n (t ∷ ts) (suc k) d r h = let i = least (t.object + 1) ts k d r.1 (omega (arith, h)) in let j = r.0 in omega arith

-- each touch is the one of its object
pub mode_here : (n : ℕ) (ts : List Touch) (k : ℕ) (d : Touch) → RisesFrom n ts → k < length ts → mode_at ts (get_or ts k d).object ≡ Some (get_or ts k d).mode
mode_here n [] k d r h = absurd (omega (arith, h))
mode_here n (t ∷ ts) zero d r h = rw (eq-eqb t.object t.object refl) refl
mode_here n (t ∷ ts) (suc k) d r h =
    let low = least (t.object + 1) ts k d r.1 (omega (arith, h)) in
    let other : (t.object == (get_or ts k d).object) ≡ false = grind (arith, nat_tests) in
    rw other (mode_here (t.object + 1) ts k d r.1 (omega (arith, h)))

module _ {V : Type 0} (change : ℕ → V → V) where
  pub after_is : (n : ℕ) (ts : List Touch) (o : ℕ) (v : V) → RisesFrom n ts → after_touches change ts o v ≡ cond (is_written (mode_at ts o)) (change o v) v
  after_is n [] o v r = refl
  after_is n (t ∷ ts) o v r =
      elim (eqb_tells t.object o) [
        | inl p ↦ rw p.0 (after_is (t.object + 1) ts o (cond (is_written (Some t.mode)) (change o v) v) r.1
            ∙ ap (λ m. cond (is_written m) (change o (cond (is_written (Some t.mode)) (change o v) v)) (cond (is_written (Some t.mode)) (change o v) v)) (none_below (t.object + 1) ts o r.1 (omega (arith, p.1))))
        | inr p ↦ rw p.0 (after_is (t.object + 1) ts o v r.1)
      ]

  pub one_touch : (t : Touch) (lane : ℕ) (h : ℕ → V) (j : ℕ) → t.object % 8 ≡ lane → t.mode ≡ Write → set_at h (t.object / 8) (change t.object (h (t.object / 8))) j ≡ after_touch change t (8 * j + lane) (h j)
  one_touch t lane h j here write =
      elim (eqb_tells j (t.object / 8)) [
        | inl p ↦ let o : t.object ≡ 8 * j + lane = omega (arith, here, p.1) in
            let at : (t.object == 8 * j + lane) ≡ true = eq-eqb t.object (8 * j + lane) o in
            rw (p.0, at, write) (ap (λ k. change t.object (h k)) (sym p.1) ∙ ap (λ k. change k (h j)) o)
        | inr p ↦ let at : (t.object == 8 * j + lane) ≡ false = (let q = p.1 in let w : t.object ≢ 8 * j + lane = λ e. q (omega (arith, here, e)) in grind (arith, nat_tests, w)) in
            rw (p.0, at) refl
      ]

  pub other_lane : (t : Touch) (lane : ℕ) (v : V) (j : ℕ) → lane < 8 → t.object % 8 ≢ lane → after_touch change t (8 * j + lane) v ≡ v
  other_lane t lane v j low off =
      let w : t.object ≢ 8 * j + lane = λ e. off (omega (arith, low, e)) in
      let at : (t.object == 8 * j + lane) ≡ false = grind (arith, nat_tests, w) in rw at refl

  read_stays : (b : Bool) (m : Mode) (o : ℕ) (v : V) → m ≢ Write → cond b (cond (is_written (Some m)) (change o v) v) v ≡ v
  read_stays true Read o v off = refl
  read_stays false Read o v off = refl
  read_stays b Write o v off = absurd (off refl)

  pub read_touch : (t : Touch) (o : ℕ) (v : V) → t.mode ≢ Write → after_touch change t o v ≡ v
  read_touch t o v off = read_stays (t.object == o) t.mode o v off

written_by : {V : Type 0} (b : Bool) (x y v : V) → (b ≡ true → x ≡ y) → cond b x v ≡ cond b y v
written_by true x y v law = law refl
written_by false x y v law = refl

pub written_is : {V : Type 0} (ts us : List Touch) (o : ℕ) (x y v : V) → ts ≡ us → (is_written (mode_at us o) ≡ true → x ≡ y) → cond (is_written (mode_at ts o)) x v ≡ cond (is_written (mode_at us o)) y v
written_is ts us o x y v same law = ap (λ l. cond (is_written (mode_at l o)) x v) same ∙ written_by (is_written (mode_at us o)) x y v law
