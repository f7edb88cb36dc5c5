-- One entry joined to a map as a list of entries.
use Rattle.std.specs.Prelude.{◌≡◌, Bool, true, false, cond, refl, List, [], ◌∷◌, ◌++◌, Option, Some, None}
use Rattle.std.specs.BTreeMap.{is_at}
use Rattle.std.specs.declared.cmp.Ordering.{Ordering}
use Rattle.std.proofs.Common.{inl, inr}
use Rattle.std.proofs.lemmas.Map.Lookups.{CmpEqualImpliesEq}
use Rattle.log_pieces.specs.Join.{IsJoin}
use Rattle.log_pieces.specs.Keyed.{value_at, option_joined, option_same, option_partly, left_at, keyed_same, keyed_joined, keyed_partly}
use Rattle.log_pieces.specs.KeyedLaws.{value_at-front, value_at-rest, value_at-keyed_joined, is_at_true, keyed_laws}
use Rattle.log_pieces.specs.OptionLaws.{option_reflexive, option_transitive, option_joined-None}

-- the one entry of a list is the next one, and nothing stands before it
one_parts : {X : Type 0} (x : X) (front : List X) (next : X) (rest : List X) → x ∷ [] ≡ front ++ next ∷ rest → (front ≡ []) × (next ≡ x)
one_parts x [] next rest h = (refl, cc)
one_parts x (y ∷ []) next rest h = absurd cc
one_parts x (y ∷ z ∷ front) next rest h = absurd cc

module _ {K V : Type 0} {same : V → V → Type 0} {join : V → V → V} {partly : V → V → V → Type 0} (laws : IsJoin same join partly) (cmp : K → K → Ordering) (exact : CmpEqualImpliesEq cmp) where
  -- an entry put behind a list that lacks its key is joined to it
  keyed_push : (p : List (K × V)) (e : K × V) → value_at cmp p e.0 ≡ None
      → keyed_same cmp same (keyed_joined cmp join p (e ∷ [])) (p ++ e ∷ [])
  keyed_push p e absent key = rw (value_at-keyed_joined cmp exact join p (e ∷ []) key, at (value_at cmp p key) refl (is_at (cmp key) e.0) refl) (option_reflexive laws _) where
    at : (o : Option V) → value_at cmp p key ≡ o → (t : Bool) → is_at (cmp key) e.0 ≡ t
        → option_joined join o (cond t (Some e.1) None) ≡ value_at cmp (p ++ e ∷ []) key
    at None h t i = rw (value_at-rest cmp p (e ∷ []) key h, i) refl
    at (Some y) h false i = rw (value_at-front cmp p (e ∷ []) key y h) refl
    at (Some y) h true i = let is_key : key ≡ e.0 = is_at_true exact key e.0 i in let lacked : value_at cmp p key ≡ None = rw is_key absent in absurd cc

  -- one more entry joined, whose key those joined so far lack
  pub one_more : (a p cur new : List (K × V)) (e : K × V) → value_at cmp p e.0 ≡ None → keyed_same cmp same cur (keyed_joined cmp join a p)
      → keyed_same cmp same new (keyed_joined cmp join cur (e ∷ []))
      → keyed_same cmp same new (keyed_joined cmp join a (p ++ e ∷ []))
  one_more a p cur new e absent so_far one =
      let all = keyed_laws laws cmp exact in
      let last : List (K × V) = e ∷ [] in
      let both = keyed_joined cmp join a p in
      let more = keyed_joined cmp join p last in
      all.transitive new (keyed_joined cmp join cur last) _ one
      (all.transitive (keyed_joined cmp join cur last) (keyed_joined cmp join both last) _ (all.respects cur both last last so_far (all.reflexive last))
      (all.transitive (keyed_joined cmp join both last) (keyed_joined cmp join a more) _ (all.associative a p last) (all.respects a a more (p ++ last) (all.reflexive a) (keyed_push p e absent))))

  -- what want of memory leaves where one entry was to be joined
  pub one_left_at : (a c : List (K × V)) (e : K × V) → keyed_partly cmp same join partly a (e ∷ []) c → (key : K)
      → left_at same partly (value_at cmp a key) (value_at cmp (e ∷ []) key) (value_at cmp c key)
  one_left_at a c e h key =
      let is = one_parts e h.front h.next h.rest h.parts in
      let nothing : value_at cmp (keyed_joined cmp join a h.front) key ≡ value_at cmp a key = rw (value_at-keyed_joined cmp exact join a h.front key, is.0) (option_joined-None join (value_at cmp a key)) in
      rw (← nothing, ← is.1) (h.left key)

  -- one more entry was to be joined, whose key those joined so far lack
  pub one_left : (a p u cur new : List (K × V)) (e : K × V) → value_at cmp p e.0 ≡ None
      → keyed_same cmp same cur (keyed_joined cmp join a p) → keyed_partly cmp same join partly cur (e ∷ []) new
      → keyed_partly cmp same join partly a (p ++ e ∷ u) new
  one_left a p u cur new e absent so_far one = record {
    front = p;
    next = e;
    rest = u;
    parts = refl;
    absent = absent;
    left = λ key. elim (one_left_at cur new e one key) [
      | inl s ↦ inl (option_transitive laws _ _ _ s (so_far key))
      | inr s ↦ inr (s.0, option_transitive laws _ _ _ s.1 (so_far key), s.2)
    ];
  }

  -- where no value can be joined in part, nothing is changed
  pub one_unchanged : ((x y z : V) → partly x y z → ⊥) → (a c : List (K × V)) (e : K × V) → keyed_partly cmp same join partly a (e ∷ []) c
      → keyed_same cmp same c a
  one_unchanged never a c e h key = elim (one_left_at a c e h key) [ inl s ↦ s | inr s ↦ absurd (nowhere s.0 _ _ s.2) ] where
    nowhere : (x y z : Option V) → option_partly partly x y z → ⊥
    nowhere None y z h = h
    nowhere (Some x) None z h = h
    nowhere (Some x) (Some y) None h = h
    nowhere (Some x) (Some y) (Some z) h = never x y z h

  is_at-comm : (x y : K) → is_at (cmp x) y ≡ is_at (cmp y) x
  is_at-comm x y = at (is_at (cmp x) y) (is_at (cmp y) x) refl refl where
    at : (s t : Bool) → is_at (cmp x) y ≡ s → is_at (cmp y) x ≡ t → s ≡ t
    at true true h g = refl
    at false false h g = refl
    at true false h g = let is : x ≡ y = is_at_true exact x y h in absurd cc
    at false true h g = let is : y ≡ x = is_at_true exact y x g in absurd cc

  -- what stands at a key after w was written at k: there the join of what stood there with v
  pub joined_at : (a : List (K × V)) (k : K) (v w : V) (key : K) (o : Option V)
      → o ≡ cond (is_at (cmp k) key) (Some w) (value_at cmp a key)
      → option_same same (Some w) (option_joined join (value_at cmp a k) (Some v))
      → option_same same o (value_at cmp (keyed_joined cmp join a ((k, v) ∷ [])) key)
  joined_at a k v w key o written joined = rw (value_at-keyed_joined cmp exact join a ((k, v) ∷ []) key, written, is_at-comm k key) (at (is_at (cmp key) k) refl) where
    at : (t : Bool) → is_at (cmp key) k ≡ t
        → option_same same (cond t (Some w) (value_at cmp a key)) (option_joined join (value_at cmp a key) (cond t (Some v) None))
    at true i = let is : key ≡ k = is_at_true exact key k i in rw is joined
    at false i = rw (option_joined-None join (value_at cmp a key)) (option_reflexive laws _)

  -- the same where want of memory left w of what stood at k
  pub partly_at : (a c : List (K × V)) (k : K) (old v w : V)
      → ((key : K) → value_at cmp c key ≡ cond (is_at (cmp k) key) (Some w) (value_at cmp a key)) → value_at cmp a k ≡ Some old
      → partly old v w
      → keyed_partly cmp same join partly a ((k, v) ∷ []) c
  partly_at a c k old v w written found left = record {
    front = [];
    next = (k, v);
    rest = [];
    parts = refl;
    absent = refl;
    left = λ key. rw (value_at-keyed_joined cmp exact join a [] key, option_joined-None join (value_at cmp a key), written key, is_at-comm k key) (at key (is_at (cmp key) k) refl);
  } where
    at : (key : K) (t : Bool) → is_at (cmp key) k ≡ t
        → left_at same partly (value_at cmp a key) (cond t (Some v) None) (cond t (Some w) (value_at cmp a key))
    at key true i = let is : key ≡ k = is_at_true exact key k i in inr (Some old, rw (is, found) (laws.reflexive old), left)
    at key false i = inl (option_reflexive laws _)

  -- nothing written
  pub one_untouched : (a : List (K × V)) (e : K × V) → keyed_partly cmp same join partly a (e ∷ []) a
  one_untouched a e = record {
    front = [];
    next = e;
    rest = [];
    parts = refl;
    absent = refl;
    left = λ key. inl (rw (value_at-keyed_joined cmp exact join a [] key, option_joined-None join (value_at cmp a key)) (option_reflexive laws _));
  }
