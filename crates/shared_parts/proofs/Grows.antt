-- A call more, in the history and in the part of its thread.
use Rattle.std.proofs.Common.{◌≡◌, ℕ, ◌==◌, ◌≤◌, List, [], ◌∷◌, ◌++◌, length, Bool, true, false, cond, refl, sym, ap, ◌∙◌, subst, arith}
use Rattle.std.proofs.lemmas.Bool.{eq-eqb}
use mathlib.Core.List.{IsPrefix}
use Rattle.shared_parts.specs.declared.call.Call.{Call}
use Rattle.shared_parts.specs.Calls.{part_of, IsWithin, nothing, passed, kept}

module _ {A : Type 0} where
  pub within-more : {xs ys : List A} (zs : List A) → IsWithin xs ys → IsWithin xs (ys ++ zs)
  within-more [] nothing = nothing
  within-more (z ∷ zs) nothing = passed (within-more zs nothing)
  within-more zs (passed w) = passed (within-more zs w)
  within-more zs (kept w) = kept (within-more zs w)

  pub within-push : {xs ys : List A} (c : A) → IsWithin xs ys → IsWithin (xs ++ c ∷ []) (ys ++ c ∷ [])
  within-push c nothing = kept nothing
  within-push c (passed w) = passed (within-push c w)
  within-push c (kept w) = kept (within-push c w)

  pub within_length : {xs ys : List A} → IsWithin xs ys → length xs ≤ length ys
  within_length nothing = omega arith
  within_length (passed w) = let h = within_length w in omega arith
  within_length (kept w) = let h = within_length w in omega arith

  -- nothing is left out where the lengths are equal
  pub within_whole : {xs ys : List A} → IsWithin xs ys → length ys ≤ length xs → xs ≡ ys
  within_whole nothing le = refl
  within_whole (passed w) le = let h = within_length w in absurd (omega arith)
  within_whole (kept {x} w) le = ap (λ l. x ∷ l) (within_whole w (omega arith))

module _ {O R : Type 0} where
  pub part_of-append : (t : ℕ) (xs ys : List (Call O R)) → part_of t (xs ++ ys) ≡ part_of t xs ++ part_of t ys
  part_of-append t [] ys = refl
  part_of-append t (x ∷ xs) ys =
      elim (x.thread == t) as (λ b. cond b (x ∷ part_of t (xs ++ ys)) (part_of t (xs ++ ys)) ≡ cond b (x ∷ part_of t xs) (part_of t xs) ++ part_of t ys) [
        | true ↦ ap (λ l. x ∷ l) (part_of-append t xs ys)
        | false ↦ part_of-append t xs ys
      ]

  -- the part of the call's thread grows by the call
  pub part_grows : (t : ℕ) (cs : List (Call O R)) (c : Call O R) → c.thread ≡ t → part_of t (cs ++ c ∷ []) ≡ part_of t cs ++ c ∷ []
  part_grows t cs c same =
      part_of-append t cs (c ∷ []) ∙ ap (λ (b : Bool). part_of t cs ++ cond b (c ∷ []) []) (eq-eqb c.thread t same)

  -- what a thread knew of its part it knows of each longer history
  pub within_later : (t : ℕ) (calls seen all : List (Call O R)) → IsPrefix seen all → IsWithin calls (part_of t seen) → IsWithin calls (part_of t all)
  within_later t calls seen all pre within =
      subst (IsWithin calls) (sym (part_of-append t seen pre.0) ∙ ap (part_of t) pre.1) (within-more (part_of t pre.0) within)

  -- a call more in a seat and in the journal
  pub seat_grows : (t : ℕ) (calls now seen all later : List (Call O R)) (c : Call O R) → IsPrefix seen all → IsWithin calls (part_of t seen)
      → now ≡ calls ++ c ∷ [] → later ≡ all ++ c ∷ [] → c.thread ≡ t → IsWithin now (part_of t later)
  seat_grows t calls now seen all later c pre within grown then same =
      let part : part_of t all ++ c ∷ [] ≡ part_of t later = sym (part_grows t all c same) ∙ ap (part_of t) (sym then) in
      subst (λ l. IsWithin l (part_of t later)) (sym grown) (subst (IsWithin (calls ++ c ∷ [])) part (within-push c (within_later t calls seen all pre within)))
