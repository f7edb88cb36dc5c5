-- Reading and putting so many values, as a loop does.
use Rattle.std.proofs.Common.{◌≡◌, ℕ, suc, ◌-◌, ◌+◌, ◌≤◌, ◌<◌, List, [], ◌∷◌, ◌++◌, length, take, get_or, Option, Some, None, refl, sym, ap, subst, ◌∙◌, append_assoc, arith}
use Rattle.std.specs.Option.{option_map}
use Rattle.std.specs.List.{All, flat_map}
use Rattle.std.proofs.lemmas.List.{append-nil, take_more}
use Rattle.std.proofs.lemmas.List.Concat.{flat_map-cons}
use Rattle.std.proofs.lemmas.List.Elements.{All-push}
use Rattle.std.proofs.lemmas.Grind.{flat_map-append}
use Rattle.log_pieces.specs.Reading.{Reader, read_times}

-- the values before those that are still read
abbrev pub behind : {A : Type 0} → List A → Option (List A × List ℕ) → Option (List A × List ℕ)
behind xs read = option_map (λ x. (xs ++ x.0, x.1)) read

pub whole : {A : Type 0} (read : Option (List A × List ℕ)) → behind [] read ≡ read
whole None = refl
whole (Some x) = refl

module _ {A : Type 0} (read : Reader A) where
  regroup : (xs : List A) (x : A) (rest : Option (List A × List ℕ)) → behind xs (option_map (λ y. (x ∷ y.0, y.1)) rest) ≡ behind (xs ++ x ∷ []) rest
  regroup xs x (Some y) = ap (λ (ys : List A). Some (ys, y.1)) (simp append_assoc)
  regroup xs x None = refl

  pub goes_on : (xs : List A) (count i : ℕ) (bytes : List ℕ) (x : A) (rest : List ℕ) (total : Option (List A × List ℕ)) → i < count → read bytes ≡ Some (x, rest)
      → behind xs (read_times (count - i) read bytes) ≡ total → behind (xs ++ x ∷ []) (read_times (count - (i + 1)) read rest) ≡ total
  unfolding read_times
  goes_on xs count i bytes x rest total lt h so_far =
      let one_more : count - i ≡ suc (count - (i + 1)) = omega arith in
      let one : behind xs (read_times (count - i) read bytes) ≡ behind (xs ++ x ∷ []) (read_times (count - (i + 1)) read rest) = rw (one_more, h) (regroup xs x (read_times (count - (i + 1)) read rest)) in
      sym one ∙ so_far

  pub fails : (xs : List A) (count i : ℕ) (bytes : List ℕ) (total : Option (List A × List ℕ)) → i < count → read bytes ≡ None
      → behind xs (read_times (count - i) read bytes) ≡ total → total ≡ None
  unfolding read_times
  fails xs count i bytes total lt h so_far =
      let one_more : count - i ≡ suc (count - (i + 1)) = omega arith in
      let one : behind xs (read_times (count - i) read bytes) ≡ None = rw (one_more, h) refl in
      sym so_far ∙ one

  pub is_done : (xs : List A) (count i : ℕ) (bytes : List ℕ) (total : Option (List A × List ℕ)) → count ≤ i → behind xs (read_times (count - i) read bytes) ≡ total → total ≡ Some (xs, bytes)
  unfolding read_times
  is_done xs count i bytes total le so_far =
      let none : count - i ≡ 0 = omega arith in
      let one : behind xs (read_times (count - i) read bytes) ≡ Some (xs, bytes) = rw none (ap (λ (ys : List A). Some (ys, bytes)) (append-nil xs)) in
      sym so_far ∙ one

-- ---- putting so many values

-- one more value is put
pub put_more : {X : Type 0} (spell : X → List ℕ) (xs : List X) (i : ℕ) (x d : X) (before so_far after : List ℕ) → i < length xs → x ≡ get_or xs i d
    → so_far ≡ before ++ flat_map spell (take i xs) → after ≡ so_far ++ spell x → after ≡ before ++ flat_map spell (take (i + 1) xs)
put_more spell xs i x d before so_far after lt is e f =
    let one : take (i + 1) xs ≡ take i xs ++ x ∷ [] = take_more xs i d lt ∙ ap (λ y. take i xs ++ y ∷ []) (sym is) in
    let all : flat_map spell (take (i + 1) xs) ≡ flat_map spell (take i xs) ++ spell x =
    ap (flat_map spell) one ∙ flat_map-append spell (take i xs) (x ∷ []) ∙ ap (λ (l : List ℕ). flat_map spell (take i xs) ++ l) (flat_map-cons spell x [] ∙ append-nil (spell x)) in
    f ∙ ap (λ (l : List ℕ). l ++ spell x) e ∙ append_assoc before (flat_map spell (take i xs)) (spell x) ∙ ap (λ (l : List ℕ). before ++ l) (sym all)

-- one more value fits
pub fits_more : {X : Type 0} (Fit : X → Type 0) (xs : List X) (i : ℕ) (x d : X) → i < length xs → x ≡ get_or xs i d → All Fit (take i xs) → Fit x → All Fit (take (i + 1) xs)
fits_more Fit xs i x d lt is so_far here =
    let one : take (i + 1) xs ≡ take i xs ++ x ∷ [] = take_more xs i d lt ∙ ap (λ y. take i xs ++ y ∷ []) (sym is) in
    subst (All Fit) (sym one) (All-push Fit (take i xs) x so_far here)
