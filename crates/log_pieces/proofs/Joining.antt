-- Items at consecutive places, joined one stretch after another.
use Rattle.std.proofs.Common.{◌≡◌, ℕ, suc, ◌+◌, ◌≤◌, Bool, true, false, cond, List, [], ◌∷◌, ◌++◌, length, Option, Some, None, refl, sym, ap, subst, ◌∙◌, append_assoc, arith, inl, inr}
use Rattle.std.specs.Bool.{Decides}
use Rattle.std.specs.BTreeMap.{is_at}
use Rattle.std.specs.Ordering.{nat_cmp}
use Rattle.std.specs.List.{flat_map}
use Rattle.std.proofs.lemmas.Bool.{cases_lt}
use Rattle.std.proofs.lemmas.List.{append-nil}
use Rattle.std.proofs.lemmas.List.Concat.{flat_map-cons}
use Rattle.std.proofs.lemmas.Grind.{flat_map-append}
use Rattle.log_pieces.specs.declared.flat.Flat.{Flat}
use Rattle.log_pieces.specs.declared.flat.Flat.TheVariants.{Known, Clash}
use Rattle.log_pieces.specs.Flat.{flat_joined}
use Rattle.log_pieces.specs.FlatLaws.{flat_laws}
use Rattle.log_pieces.specs.Keyed.{value_at, option_joined, option_same}
use Rattle.log_pieces.specs.KeyedLaws.{value_at-front, value_at-rest}
use Rattle.log_pieces.specs.OptionLaws.{option_associative}
use Rattle.log_pieces.specs.PackedClaim.{pair_bytes, Rising, FitPairs, Spelled, placed}
use Rattle.log_pieces.specs.Pages.{AreJoined, ClaimsJoined}
use Rattle.log_pieces.proofs.Pages.{rising_wider, rising_lower, fit-append}
use Rattle.log_pieces.proofs.OneClaim.{at_key, none_below, none_above}

-- the same at `≡` is equality
pub same_is : {V : Type 0} (a b : Option V) → option_same (λ x y. x ≡ y) a b → a ≡ b
same_is None None h = refl
same_is None (Some y) h = absurd h
same_is (Some x) None h = absurd h
same_is (Some x) (Some y) h = ap (λ z. Some z) h

module _ {T : Type 0} where
  pub placed-append : (first : ℕ) (xs ys : List T) → placed first (xs ++ ys) ≡ placed first xs ++ placed (first + length xs) ys
  placed-append first [] ys = let e : first + 0 ≡ first = omega arith in rw e refl
  placed-append first (x ∷ xs) ys =
      let h : first + suc (length xs) ≡ suc first + length xs = omega arith in
      rw h (ap (λ (l : List (ℕ × Flat T)). (first, Known x) ∷ l) (placed-append (suc first) xs ys))

  pub rising_placed : (first : ℕ) (xs : List T) → Rising first (placed first xs) (first + length xs)
  rising_placed first [] = omega arith
  rising_placed first (x ∷ xs) =
      let h : suc first + length xs ≡ first + suc (length xs) = omega arith in
      (omega arith, subst (λ (n : ℕ). Rising (suc first) (placed (suc first) xs) n) h (rising_placed (suc first) xs))

  pub length-placed : (first : ℕ) (xs : List T) → length (placed first xs) ≡ length xs
  length-placed first [] = refl
  length-placed first (x ∷ xs) = ap suc (length-placed (suc first) xs)

module _ {T : Type 0} (eq : T → T → Bool) where
  nothing_joined : (a : Option (Flat T)) → option_joined (flat_joined eq) a None ≡ a
  nothing_joined None = refl
  nothing_joined (Some x) = refl

  pub joined_none : (old : List (ℕ × Flat T)) (first : ℕ) → ClaimsJoined eq old first [] old
  joined_none old first q = sym (nothing_joined (value_at nat_cmp old q))

  pub none_joined : (old : List (ℕ × Flat T)) → AreJoined eq old [] old
  none_joined old q = sym (nothing_joined (value_at nat_cmp old q))

  -- what is claimed twice is claimed
  pub claimed_again : ((x y : T) → Decides (eq x y) (x ≡ y)) → (claims : List (ℕ × Flat T)) → AreJoined eq claims claims claims
  claimed_again decides claims q = again (value_at nat_cmp claims q) where
    again : (a : Option (Flat T)) → a ≡ option_joined (flat_joined eq) a a
    again None = refl
    again (Some x) = ap (λ z. Some z) (sym ((flat_laws eq decides).idempotent x))

  pub joined_clash : (x : Flat T) → flat_joined eq x Clash ≡ Clash
  joined_clash (Known x) = refl
  joined_clash Clash = refl

  -- one claim more, whose place is none of those joined so far
  pub claim_more : (old front cur new : List (ℕ × Flat T)) (e : ℕ × Flat T) → value_at nat_cmp front e.0 ≡ None
      → AreJoined eq old front cur → AreJoined eq cur (e ∷ []) new → AreJoined eq old (front ++ e ∷ []) new
  claim_more old front cur new e absent so_far more q =
      more q ∙ ap (λ (o : Option (Flat T)). option_joined (flat_joined eq) o (value_at nat_cmp (e ∷ []) q)) (so_far q) ∙ at (value_at nat_cmp front q) refl (is_at (nat_cmp q) e.0) refl
    where
      at : (o : Option (Flat T)) → value_at nat_cmp front q ≡ o → (t : Bool) → is_at (nat_cmp q) e.0 ≡ t
          → option_joined (flat_joined eq) (option_joined (flat_joined eq) (value_at nat_cmp old q) o) (cond t (Some e.1) None) ≡ option_joined (flat_joined eq) (value_at nat_cmp old q) (value_at nat_cmp (front ++ e ∷ []) q)
      at None h t i = rw (nothing_joined (value_at nat_cmp old q), value_at-rest nat_cmp front (e ∷ []) q h, i) refl
      at (Some y) h false i = rw (value_at-front nat_cmp front (e ∷ []) q y h) (nothing_joined (option_joined (flat_joined eq) (value_at nat_cmp old q) (Some y)))
      at (Some y) h true i =
          let here : q ≡ e.0 = at_key q e.0 i in
          absurd (let bad : Some y ≡ None = sym h ∙ ap (value_at nat_cmp front) here ∙ absent in cc)

  -- a refused claim leaves what was joined so far
  pub claim_left : (old front cur new : List (ℕ × Flat T)) → AreJoined eq old front cur → AreJoined eq cur [] new → AreJoined eq old front new
  claim_left old front cur new so_far same q = same q ∙ nothing_joined (value_at nat_cmp cur q) ∙ so_far q

  placed_both : (first : ℕ) (xs ys : List T) (q : ℕ)
      → option_joined (flat_joined eq) (value_at nat_cmp (placed first xs) q) (value_at nat_cmp (placed (first + length xs) ys) q) ≡ value_at nat_cmp (placed first (xs ++ ys)) q
  placed_both first xs ys q = at (value_at nat_cmp (placed first xs) q) refl ∙ ap (λ (l : List (ℕ × Flat T)). value_at nat_cmp l q) (sym (placed-append first xs ys)) where
    at : (o : Option (Flat T)) → value_at nat_cmp (placed first xs) q ≡ o
        → option_joined (flat_joined eq) (value_at nat_cmp (placed first xs) q) (value_at nat_cmp (placed (first + length xs) ys) q) ≡ value_at nat_cmp (placed first xs ++ placed (first + length xs) ys) q
    at None h = rw (h, value_at-rest nat_cmp (placed first xs) (placed (first + length xs) ys) q h) refl
    at (Some y) h = elim (cases_lt q (first + length xs)) [
      | inl lt ↦ rw (h, none_below (first + length xs) (first + length xs + length ys) (placed (first + length xs) ys) q (rising_placed (first + length xs) ys) lt, value_at-front nat_cmp (placed first xs) (placed (first + length xs) ys) q y h) refl
      | inr ge ↦ absurd (let none = none_above first (first + length xs) (placed first xs) q (rising_placed first xs) ge in let bad : Some y ≡ None = sym h ∙ none in cc)
    ]

  -- one stretch more, behind those joined so far
  pub joined_more : ((x y : T) → Decides (eq x y) (x ≡ y)) → (old cur new : List (ℕ × Flat T)) (first place : ℕ) (xs ys : List T) → place ≡ first + length xs
      → ClaimsJoined eq old first xs cur → ClaimsJoined eq cur place ys new → ClaimsJoined eq old first (xs ++ ys) new
  joined_more decides old cur new first place xs ys is so_far more q =
      let step = subst (λ (n : ℕ). ClaimsJoined eq cur n ys new) is more in
      step q
      ∙ ap (λ (o : Option (Flat T)). option_joined (flat_joined eq) o (value_at nat_cmp (placed (first + length xs) ys) q)) (so_far q)
      ∙ same_is _ _ (option_associative (flat_laws eq decides) (value_at nat_cmp old q) (value_at nat_cmp (placed first xs) q) (value_at nat_cmp (placed (first + length xs) ys) q))
      ∙ ap (λ (o : Option (Flat T)). option_joined (flat_joined eq) (value_at nat_cmp old q) o) (placed_both first xs ys q)

-- ---- the spelling of a stretch
pub put_more : {T : Type 0} (spelled : T → List ℕ) (first place : ℕ) (xs : List T) (x : T) (before bytes : List ℕ) → place ≡ first + length xs → bytes ≡ before ++ flat_map (pair_bytes spelled) (placed first xs)
    → (new : List ℕ) → new ≡ (bytes ++ place ∷ []) ++ spelled x → new ≡ before ++ flat_map (pair_bytes spelled) (placed first (xs ++ x ∷ []))
put_more {T} spelled first place xs x before bytes is so_far new put =
    let here : List (ℕ × Flat T) = placed (first + length xs) (x ∷ []) in
    let one : flat_map (pair_bytes spelled) here ≡ place ∷ spelled x = flat_map-cons (pair_bytes spelled) (first + length xs, Known x) [] ∙ append-nil ((first + length xs) ∷ spelled x) ∙ ap (λ (n : ℕ). n ∷ spelled x) (sym is) in
    let all : flat_map (pair_bytes spelled) (placed first xs) ++ place ∷ spelled x ≡ flat_map (pair_bytes spelled) (placed first (xs ++ x ∷ [])) =
    ap (λ (l : List ℕ). flat_map (pair_bytes spelled) (placed first xs) ++ l) (sym one) ∙ sym (flat_map-append (pair_bytes spelled) (placed first xs) here) ∙ ap (flat_map (pair_bytes spelled)) (sym (placed-append first xs (x ∷ []))) in
    put ∙ append_assoc bytes (place ∷ []) (spelled x) ∙ ap (λ (l : List ℕ). l ++ place ∷ spelled x) so_far ∙ append_assoc before (flat_map (pair_bytes spelled) (placed first xs)) (place ∷ spelled x)
    ∙ ap (λ (l : List ℕ). before ++ l) all

pub fit_more : {T : Type 0} (Fits : T → Type 0) (first : ℕ) (xs : List T) (x : T) → FitPairs Fits (placed first xs) → Fits x → FitPairs Fits (placed first (xs ++ x ∷ []))
fit_more Fits first xs x so_far fit = rw (placed-append first xs (x ∷ [])) (fit-append Fits (placed first xs) (placed (first + length xs) (x ∷ [])) so_far (fit, tt))

pub stretch_spelled : {T : Type 0} (spelled : T → List ℕ) (Fits : T → Type 0) (first : ℕ) (xs : List T) (bytes : List ℕ) → first + length xs ≤ 128 → bytes ≡ flat_map (pair_bytes spelled) (placed first xs)
    → FitPairs Fits (placed first xs) → Spelled spelled Fits (length xs) bytes (placed first xs)
stretch_spelled spelled Fits first xs bytes le parts fits = record {
  parts = parts;
  many = length-placed first xs;
  rising = rising_lower 0 first 128 (placed first xs) (omega arith) (rising_wider first (first + length xs) 128 (placed first xs) le (rising_placed first xs));
  fits = fits;
}
