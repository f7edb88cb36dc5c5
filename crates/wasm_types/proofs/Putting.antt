-- Functions are put into a table one after the other.
use Rattle.std.proofs.Common.{◌≡◌, ℕ, suc, ◌+◌, ◌-◌, ◌<◌, ◌≤◌, Bool, true, false, ◌&&◌, List, [], ◌∷◌, ◌++◌, Option, Some, None, refl, sym, ◌∙◌, ap, take, drop, length, get_or, map, slice_set, arith, append_assoc, length-append, drop-cons, add-one}
use Rattle.std.specs.List.{list_all}
use Rattle.std.proofs.Math.Seq.{set-append_seam, take-suc}
use Rattle.std.proofs.lemmas.List.{length-take-le, length-map, map-append}
use Rattle.wasm_types.specs.declared.value.Value.TheVariants as value
use Rattle.wasm_types.specs.declared.modules.Element.{Element}
use Rattle.wasm_types.specs.Tables.{with_elements}
use Rattle.wasm_types.specs.Segments.{is_within}

abbrev some_of : ℕ → Option ℕ
some_of f = Some f

-- so many of the functions were put
abbrev pub put_so_far : ℕ → ℕ → List ℕ → List (Option ℕ) → List (Option ℕ)
put_so_far at n functions table = take at table ++ (map (λ f. Some f) (take n functions) ++ drop (at + n) table)

pub put_next : (at n : ℕ) (functions : List ℕ) (table : List (Option ℕ)) (d : ℕ) → at + length functions ≤ length table → n < length functions
    → slice_set (put_so_far at n functions table) (at + n) (Some (get_or functions n d)) ≡ put_so_far at (n + 1) functions table
put_next at n functions table d fits here =
    let pre = take at table in
    let mid = map (λ f. Some f) (take n functions) in
    let rest = drop (suc (at + n)) table in
    let old = get_or table (at + n) None in
    let new : Option ℕ = Some (get_or functions n d) in
    let cut : drop (at + n) table ≡ old ∷ rest = drop-cons table (at + n) None (omega arith) in
    let size : length (pre ++ mid) ≡ at + n = length-append pre mid ∙ lengths in
    let next : suc (at + n) ≡ at + (n + 1) = omega arith in
    ap (λ x. slice_set (pre ++ (mid ++ x)) (at + n) new) cut ∙ ap (λ x. slice_set x (at + n) new) (sym (append_assoc pre mid (old ∷ rest)))
    ∙ ap (λ x. slice_set ((pre ++ mid) ++ old ∷ rest) x new) (sym size) ∙ set-append_seam (pre ++ mid) old rest new
    ∙ append_assoc pre mid (new ∷ rest)
    ∙ ap (λ x. pre ++ x) (sym (append_assoc mid (new ∷ []) rest)) ∙ ap (λ x. pre ++ (x ++ rest)) more
    ∙ ap (λ x. pre ++ (map (λ f. Some f) (take (n + 1) functions) ++ drop x table)) next
  where
    lengths : length (take at table) + length (map (λ f. Some f) (take n functions)) ≡ at + n
    lengths =
        let a : length (take at table) ≡ at = length-take-le at table (omega arith) in
        let b : length (map (λ f. Some f) (take n functions)) ≡ length (take n functions) = length-map (take n functions) (λ f. Some f) in
        let c : length (take n functions) ≡ n = length-take-le n functions (omega arith) in
        omega (arith, a, b, c)

    more : map (λ f. Some f) (take n functions) ++ Some (get_or functions n d) ∷ [] ≡ map (λ f. Some f) (take (n + 1) functions)
    more = sym (map-append some_of (take n functions) (get_or functions n d ∷ [])) ∙ ap (map some_of) (sym (take-suc functions n d here) ∙ ap (λ x. take x functions) (sym (add-one n)))

-- ---- all segments

both : (a b : Bool) → (a && b) ≡ true → (a ≡ true) × (b ≡ true)
both true b h = (refl, h)
both false b h = absurd cc

-- the segments that are left, and what they make of the table
pub record Left (size : ℕ) (all rest : List Element) (first table : List (Option ℕ)) : Type 0 where
  pub sized : length table ≡ size
  pub within : list_all (λ e. is_within size e.offset (length e.functions)) rest ≡ true
  pub makes : with_elements rest table ≡ with_elements all first
