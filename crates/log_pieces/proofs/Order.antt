-- Entries in order of their keys, and a loop that inserts them one by one.
use Rattle.std.specs.Prelude.{◌≡◌, refl, List, [], ◌∷◌, ◌++◌, None}
use Rattle.std.specs.BTreeMap.{insert_entry}
use Rattle.std.specs.Cmp.{IsTotalOrder}
use Rattle.std.specs.List.{AllByRecursion}
use Rattle.std.specs.List.Sorted.{IsStrictlySortedBy}
use Rattle.std.specs.Map.{keys_of}
use Rattle.std.specs.Ordering.{ordering_reverse}
use Rattle.std.specs.declared.cmp.Ordering.{Ordering}
use Rattle.std.specs.declared.cmp.Ordering.TheVariants.{Less, Greater}
use Rattle.std.proofs.Common.{◌∙◌, ap, subst, append_assoc}
use Rattle.std.proofs.lemmas.Map.Keys.{sorted_head, sorted_tail}
use Rattle.log_pieces.specs.Keyed.{value_at}

greater : {K : Type 0} (cmp : K → K → Ordering) → IsTotalOrder cmp → (x y : K) → cmp x y ≡ Less → cmp y x ≡ Greater
greater cmp order x y h = order.antisymm y x ∙ ap ordering_reverse h

module _ {K V : Type 0} (cmp : K → K → Ordering) (order : IsTotalOrder cmp) where
  -- the first key is below that of each later entry
  below_later : (k : K) (p u : List (K × V)) (e : K × V) → AllByRecursion (λ y. cmp k y ≡ Less) (keys_of (p ++ e ∷ u)) → cmp k e.0 ≡ Less
  below_later k [] u e h = h.0
  below_later k (f ∷ p) u e h = below_later k p u e h.1

  -- in order of the keys, a front lacks the key behind it
  pub absent_before : (p u : List (K × V)) (e : K × V) → IsStrictlySortedBy cmp (keys_of (p ++ e ∷ u)) → value_at cmp p e.0 ≡ None
  absent_before [] u e s = refl
  absent_before (f ∷ p) u e s =
      let above : cmp e.0 f.0 ≡ Greater = greater cmp order f.0 e.0 (below_later f.0 p u e (sorted_head cmp f.0 (keys_of (p ++ e ∷ u)) s)) in
      rw (above, absent_before p u e (sorted_tail cmp f.0 (keys_of (p ++ e ∷ u)) s)) refl

  insert_last : (p u : List (K × V)) (e : K × V) → IsStrictlySortedBy cmp (keys_of (p ++ e ∷ u)) → insert_entry cmp p e.0 e.1 ≡ p ++ e ∷ []
  insert_last [] u e s = refl
  insert_last (f ∷ p) u e s =
      let above : cmp e.0 f.0 ≡ Greater = greater cmp order f.0 e.0 (below_later f.0 p u e (sorted_head cmp f.0 (keys_of (p ++ e ∷ u)) s)) in
      rw (above, insert_last p u e (sorted_tail cmp f.0 (keys_of (p ++ e ∷ u)) s)) refl

  -- a loop over the entries of `all` in order of the keys: the next entry is inserted behind those before
  pub insert_next : {all rest : List (K × V)} {e : K × V} {u : List (K × V)} (front : List (K × V)) → IsStrictlySortedBy cmp (keys_of all)
      → rest ≡ e ∷ u → all ≡ front ++ rest → all ≡ insert_entry cmp front e.0 e.1 ++ u
  insert_next {all} {rest} {e} {u} front sorted next so_far =
      let parts : all ≡ front ++ e ∷ u = so_far ∙ ap (λ (l : List (K × V)). front ++ l) next in
      rw (insert_last front u e (subst (λ (l : List (K × V)). IsStrictlySortedBy cmp (keys_of l)) parts sorted), append_assoc front (e ∷ []) u) parts
