-- The type of a local is that of the first group that ends behind it.
use Rattle.std.proofs.Common.{◌≡◌, ℕ, zero, suc, ◌+◌, ◌-◌, ◌<◌, ◌≤◌, ◌^◌, List, [], ◌∷◌, ◌++◌, Option, Some, None, length, get_or, drop, refl, sym, ap, subst, ◌∙◌, append_assoc, add-one, drop-cons, arith}
use Rattle.std.specs.Prelude.{replicate, slice_get, option_map, min}
use Rattle.std.specs.List.Sorted.{IsNonDecreasing}
use Rattle.std.proofs.Math.ListN.{drop_of_length-le}
use Rattle.std.proofs.lemmas.List.{append-nil}
use Rattle.std.proofs.lemmas.Option.{slice_get_past, slice_get_read}
use Rattle.wasm_types.specs.declared.value.ValType.{ValType}
use Rattle.wasm_types.specs.declared.modules.LocalGroup.{LocalGroup}
use Rattle.wasm_types.specs.Locals.{locals_of}
use Rattle.validator.specs.Ends.{end_behind, ends_from}

-- ---- one more end

pub ends_go_on : (gs : List LocalGroup) (front all : List ℕ) (start i : ℕ) (d : LocalGroup) (count e : ℕ) → i < length gs → count ≡ (get_or gs i d).count → e ≡ min (start + count) 18446744073709551615
    → front ++ ends_from start (drop i gs) ≡ all → (front ++ e ∷ []) ++ ends_from e (drop (i + 1) gs) ≡ all
unfolding ends_from
ends_go_on gs front all start i d count e lt is next so_far =
    let g : LocalGroup = get_or gs i d in
    let rest : List LocalGroup = drop (i + 1) gs in
    let split : drop i gs ≡ g ∷ rest = rw (add-one, drop-cons gs i d) refl in
    let end : e ≡ end_behind start g = next ∙ ap (λ (n : ℕ). min (start + n) 18446744073709551615) is in
    let one : front ++ ends_from start (g ∷ rest) ≡ (front ++ end_behind start g ∷ []) ++ ends_from (end_behind start g) rest = sym (append_assoc front (end_behind start g ∷ []) (ends_from (end_behind start g) rest)) in
    ap (λ (n : ℕ). (front ++ n ∷ []) ++ ends_from n rest) end ∙ sym one ∙ sym (ap (λ (xs : List LocalGroup). front ++ ends_from start xs) split) ∙ so_far

pub ends_done : (gs : List LocalGroup) (front all : List ℕ) (start i : ℕ) → length gs ≤ i → front ++ ends_from start (drop i gs) ≡ all → front ≡ all
unfolding ends_from
ends_done gs front all start i le so_far = sym (ap (λ (xs : List LocalGroup). front ++ ends_from start xs) (drop_of_length-le gs le) ∙ append-nil front) ∙ so_far

-- ---- the ends do not fall

at_least : (gs : List LocalGroup) (start k d : ℕ) → start ≤ 18446744073709551615 → k < length (ends_from start gs) → start ≤ get_or (ends_from start gs) k d
unfolding ends_from
at_least [] start k d le lt = absurd (omega arith)
at_least (g ∷ gs) start zero d le lt = omega arith
at_least (g ∷ gs) start (suc k) d le lt = let h = at_least gs (end_behind start g) k d (omega arith) (omega arith) in omega arith

pub never_fall : (gs : List LocalGroup) (start : ℕ) → start ≤ 18446744073709551615 → IsNonDecreasing (ends_from start gs)
unfolding ends_from
never_fall [] start le i j d order lt = absurd (omega arith)
never_fall (g ∷ gs) start le zero zero d order lt = omega arith
never_fall (g ∷ gs) start le zero (suc j) d order lt = at_least gs (end_behind start g) j d (omega arith) (omega arith)
never_fall (g ∷ gs) start le (suc i) zero d order lt = absurd (omega arith)
never_fall (g ∷ gs) start le (suc i) (suc j) d order lt = never_fall gs (end_behind start g) (omega arith) i j d (omega arith) (omega arith)

-- ---- the local of a place

in_group : (n : ℕ) (t : ValType) (rest : List ValType) (k : ℕ) → k < n → slice_get (replicate n t ++ rest) k ≡ Some t
in_group zero t rest k lt = absurd (omega arith)
in_group (suc n) t rest zero lt = refl
in_group (suc n) t rest (suc k) lt = in_group n t rest k (omega arith)

behind_group : (n : ℕ) (t : ValType) (rest : List ValType) (k : ℕ) → n ≤ k → slice_get (replicate n t ++ rest) k ≡ slice_get rest (k - n)
behind_group zero t rest k le = let e : k - 0 ≡ k = omega arith in ap (λ (j : ℕ). slice_get rest j) (sym e)
behind_group (suc n) t rest zero le = absurd (omega arith)
behind_group (suc n) t rest (suc k) le = let e : suc k - suc n ≡ k - n = omega arith in behind_group n t rest k (omega arith) ∙ ap (λ (j : ℕ). slice_get rest j) (sym e)

abbrev type_in : LocalGroup → ValType
type_in g = g.val_type

type_there : (x : ℕ) → x < 2 ^ 32 → (gs : List LocalGroup) (start i : ℕ) → start ≤ x → ((k : ℕ) → k < i → get_or (ends_from start gs) k 0 ≤ x)
    → (i < length (ends_from start gs) → x < get_or (ends_from start gs) i 0) → option_map type_in (slice_get gs i) ≡ slice_get (locals_of gs) (x - start)
unfolding ends_from
type_there x lt [] start i le below above = refl
type_there x lt (g ∷ gs) start zero le below above =
    let h : x < end_behind start g = above (omega arith) in
    sym (in_group g.count g.val_type (locals_of gs) (x - start) (omega arith))
type_there x lt (g ∷ gs) start (suc i) le below above =
    let h : end_behind start g ≤ x = below 0 (omega arith) in
    let e : x - start - g.count ≡ x - end_behind start g = omega arith in
    type_there x lt gs (end_behind start g) i h (λ k l. below (suc k) (omega arith)) (λ l. above (omega arith)) ∙ sym (behind_group g.count g.val_type (locals_of gs) (x - start) (omega arith) ∙ ap (λ (j : ℕ). slice_get (locals_of gs) j) e)

module _ (x : ℕ) (gs : List LocalGroup) (ends : List ℕ) (i : ℕ) (lt : x < 2 ^ 32) (are : ends ≡ ends_from 0 gs) where
  found_there : ((k : ℕ) → k < i → get_or ends k 0 ≤ x) → (i < length ends → x < get_or ends i 0) → option_map type_in (slice_get gs i) ≡ slice_get (locals_of gs) x
  found_there before behind =
      let e : x - 0 ≡ x = omega arith in
      subst (λ (n : ℕ). option_map type_in (slice_get gs i) ≡ slice_get (locals_of gs) n) e (type_there x lt gs 0 i (omega arith) (subst (λ (es : List ℕ). (k : ℕ) → k < i → get_or es k 0 ≤ x) are before) (subst (λ (es : List ℕ). i < length es → x < get_or es i 0) are behind))

  pub none_there : length gs ≤ i → ((k : ℕ) → k < i → get_or ends k 0 ≤ x) → (i < length ends → x < get_or ends i 0) → None ≡ slice_get (locals_of gs) x
  none_there past before behind = sym (ap (λ (o : Option LocalGroup). option_map type_in o) (slice_get_past gs i past)) ∙ found_there before behind

  pub some_there : (g : LocalGroup) → i < length gs → g ≡ get_or gs i g → ((k : ℕ) → k < i → get_or ends k 0 ≤ x) → (i < length ends → x < get_or ends i 0) → Some g.val_type ≡ slice_get (locals_of gs) x
  some_there g within is before behind = sym (ap (λ (o : Option LocalGroup). option_map type_in o) (slice_get_read gs (length gs) i g refl within is)) ∙ found_there before behind
