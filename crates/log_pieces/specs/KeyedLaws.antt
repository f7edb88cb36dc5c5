-- The join key by key keeps the laws of a join.
use Rattle.std.specs.Prelude.{◌≡◌, Bool, true, false, cond, refl, List, [], ◌∷◌, ◌++◌, Option, Some, None}
use Rattle.std.specs.BTreeMap.{is_at}
use Rattle.std.specs.Cmp.{Equal-is}
use Rattle.std.specs.declared.cmp.Ordering.{Ordering}
use Rattle.std.proofs.Common.{sym, ◌∙◌, ap, inl, inr}
use Rattle.std.proofs.lemmas.Map.Lookups.{CmpEqualImpliesEq}
use Rattle.log_pieces.specs.Join.{IsJoin}
use Rattle.log_pieces.specs.JoinLaws.{join_again}
use Rattle.log_pieces.specs.Keyed.{value_at, option_joined, option_same, option_partly, joined_if, keyed_same, keyed_joined, keyed_partly}
use Rattle.log_pieces.specs.OptionLaws.{option_joined-None, option_partly-None, option_reflexive, option_symmetric, option_transitive, option_respects, option_associative, option_commutative, option_idempotent, option_completes, option_laws}

-- a query that is at a key is that key
pub is_at_true : {K : Type 0} {cmp : K → K → Ordering} → CmpEqualImpliesEq cmp → (x y : K) → is_at (cmp x) y ≡ true → x ≡ y
is_at_true {cmp} exact x y h = exact x y ((Equal-is (cmp x y)).0 h)

Some-joined_if : {V : Type 0} (join : V → V → V) (x : V) (o : Option V) → Some (joined_if join x o) ≡ option_joined join (Some x) o
Some-joined_if join x None = refl
Some-joined_if join x (Some y) = refl

-- ---- the value at a key
module _ {K V : Type 0} (cmp : K → K → Ordering) where
  -- what a front has at a key, all of it has
  pub value_at-front : (front rest : List (K × V)) (key : K) (y : V) → value_at cmp front key ≡ Some y
      → value_at cmp (front ++ rest) key ≡ Some y
  value_at-front [] rest key y h = absurd cc
  value_at-front (e ∷ front) rest key y h = at (value_at-front front rest key y) (is_at (cmp key) e.0) h where
    at : (value_at cmp front key ≡ Some y → value_at cmp (front ++ rest) key ≡ Some y) → (t : Bool)
        → cond t (Some e.1) (value_at cmp front key) ≡ Some y → cond t (Some e.1) (value_at cmp (front ++ rest) key) ≡ Some y
    at ih true h = h
    at ih false h = ih h

  -- what a front lacks, its rest has
  pub value_at-rest : (front rest : List (K × V)) (key : K) → value_at cmp front key ≡ None
      → value_at cmp (front ++ rest) key ≡ value_at cmp rest key
  value_at-rest [] rest key h = refl
  value_at-rest (e ∷ front) rest key h = at (value_at-rest front rest key) (is_at (cmp key) e.0) h where
    at : (value_at cmp front key ≡ None → value_at cmp (front ++ rest) key ≡ value_at cmp rest key) → (t : Bool)
        → cond t (Some e.1) (value_at cmp front key) ≡ None → cond t (Some e.1) (value_at cmp (front ++ rest) key) ≡ value_at cmp rest key
    at ih true h = absurd cc
    at ih false h = ih h

  -- the join, key by key
  pub value_at-keyed_joined : (exact : CmpEqualImpliesEq cmp) (join : V → V → V) (a b : List (K × V)) (key : K)
      → value_at cmp (keyed_joined cmp join a b) key ≡ option_joined join (value_at cmp a key) (value_at cmp b key)
  value_at-keyed_joined exact join [] b key = refl
  value_at-keyed_joined exact join (e ∷ a) b key = at (value_at-keyed_joined exact join a b key) (is_at (cmp key) e.0) refl where
    at : value_at cmp (keyed_joined cmp join a b) key ≡ option_joined join (value_at cmp a key) (value_at cmp b key) → (t : Bool)
        → is_at (cmp key) e.0 ≡ t
        → cond t (Some (joined_if join e.1 (value_at cmp b e.0))) (value_at cmp (keyed_joined cmp join a b) key) ≡ option_joined join (cond t (Some e.1) (value_at cmp a key)) (value_at cmp b key)
    at ih true h = Some-joined_if join e.1 (value_at cmp b e.0) ∙ ap (λ (k : K). option_joined join (Some e.1) (value_at cmp b k)) (sym (is_at_true exact key e.0 h))
    at ih false h = ih

-- ---- key by key
module _ {K V : Type 0} {same : V → V → Type 0} {join : V → V → V} {partly : V → V → V → Type 0} (laws : IsJoin same join partly) (cmp : K → K → Ordering) (exact : CmpEqualImpliesEq cmp) where
  at_key : (a b : List (K × V)) (key : K)
      → value_at cmp (keyed_joined cmp join a b) key ≡ option_joined join (value_at cmp a key) (value_at cmp b key)
  at_key = value_at-keyed_joined cmp exact join

  keyed_respects : (a b c d : List (K × V)) → keyed_same cmp same a b → keyed_same cmp same c d
      → keyed_same cmp same (keyed_joined cmp join a c) (keyed_joined cmp join b d)
  keyed_respects a b c d h g key = rw (at_key a c key, at_key b d key) (option_respects laws _ _ _ _ (h key) (g key))

  keyed_associative : (a b c : List (K × V))
      → keyed_same cmp same (keyed_joined cmp join (keyed_joined cmp join a b) c) (keyed_joined cmp join a (keyed_joined cmp join b c))
  keyed_associative a b c key =
      rw (at_key (keyed_joined cmp join a b) c key, at_key a b key, at_key a (keyed_joined cmp join b c) key, at_key b c key)
      (option_associative laws (value_at cmp a key) (value_at cmp b key) (value_at cmp c key))

  keyed_commutative : (a b : List (K × V)) → keyed_same cmp same (keyed_joined cmp join a b) (keyed_joined cmp join b a)
  keyed_commutative a b key = rw (at_key a b key, at_key b a key) (option_commutative laws (value_at cmp a key) (value_at cmp b key))

  keyed_idempotent : (a : List (K × V)) → keyed_same cmp same (keyed_joined cmp join a a) a
  keyed_idempotent a key = rw (at_key a a key) (option_idempotent laws (value_at cmp a key))

  -- what is the same as a joined with a part of b, is with b what a is with b
  again : (a b part c : Option V) → ((y : V) → part ≡ Some y → b ≡ Some y) → option_same same c (option_joined join a part)
      → option_same same (option_joined join c b) (option_joined join a b)
  again a b None c h s = option_respects laws _ _ _ _ (rw (← option_joined-None join a) s) (option_reflexive laws b)
  again a b (Some y) c h s = rw (h y refl) (option_transitive laws _ _ _ (option_respects laws _ _ _ _ s (laws.reflexive y)) (join_again (option_laws laws) a (Some y)))

  keyed_completes : (a b c : List (K × V)) → keyed_partly cmp same join partly a b c
      → keyed_same cmp same (keyed_joined cmp join c b) (keyed_joined cmp join a b)
  keyed_completes a b c h key = rw (at_key c b key, at_key a b key) (elim (h.left key) [
    | inl s ↦ from_front _ s
    | inr s ↦ partial (is_at (cmp key) h.next.0) refl s.0 s.1 s.2
  ])
    where
      of_front : (y : V) → value_at cmp h.front key ≡ Some y → value_at cmp b key ≡ Some y
      of_front y e = rw h.parts (value_at-front cmp h.front (h.next ∷ h.rest) key y e)

      from_front : (x : Option V) → option_same same x (value_at cmp (keyed_joined cmp join a h.front) key)
          → option_same same (option_joined join x (value_at cmp b key)) (option_joined join (value_at cmp a key) (value_at cmp b key))
      from_front x s = again _ _ (value_at cmp h.front key) _ of_front (rw (← at_key a h.front key) s)

      partial : (t : Bool) → is_at (cmp key) h.next.0 ≡ t → (x : Option V)
          → option_same same x (value_at cmp (keyed_joined cmp join a h.front) key)
          → option_partly partly x (cond t (Some h.next.1) None) (value_at cmp c key)
          → option_same same (option_joined join (value_at cmp c key) (value_at cmp b key)) (option_joined join (value_at cmp a key) (value_at cmp b key))
      partial false e x s p = absurd (option_partly-None partly x _ p)
      partial true e x s p =
          let is_next : key ≡ h.next.0 = is_at_true exact key h.next.0 e in
          let lacked : value_at cmp h.front key ≡ None = rw is_next h.absent in
          let found : value_at cmp b key ≡ Some h.next.1 = rw (h.parts, value_at-rest cmp h.front (h.next ∷ h.rest) key lacked, e) refl in
          let completed : option_same same (option_joined join (value_at cmp c key) (value_at cmp b key)) (option_joined join x (value_at cmp b key)) = rw found (option_completes laws x (Some h.next.1) (value_at cmp c key) p) in
          option_transitive laws _ _ _ completed (from_front x s)

  pub keyed_laws : IsJoin (keyed_same cmp same) (keyed_joined cmp join) (keyed_partly cmp same join partly)
  keyed_laws = record {
    reflexive = λ a key. option_reflexive laws (value_at cmp a key);
    symmetric = λ a b h key. option_symmetric laws _ _ (h key);
    transitive = λ a b c h g key. option_transitive laws _ _ _ (h key) (g key);
    respects = keyed_respects;
    associative = keyed_associative;
    commutative = keyed_commutative;
    idempotent = keyed_idempotent;
    completes = keyed_completes;
  }
