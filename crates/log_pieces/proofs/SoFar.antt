-- A loop that joins the entries of one map to another, one by one.
use Rattle.std.specs.Prelude.{◌≡◌, refl, List, [], ◌∷◌, ◌++◌, None}
use Rattle.std.specs.Cmp.{IsTotalOrder}
use Rattle.std.specs.List.Sorted.{IsStrictlySortedBy}
use Rattle.std.specs.Map.{keys_of}
use Rattle.std.specs.declared.cmp.Ordering.{Ordering}
use Rattle.std.proofs.Common.{◌∙◌, sym, ap, subst, append_assoc}
use Rattle.std.proofs.lemmas.List.{append-nil}
use Rattle.std.proofs.lemmas.Map.Lookups.{CmpEqualImpliesEq}
use Rattle.log_pieces.specs.Join.{IsJoin}
use Rattle.log_pieces.specs.Keyed.{value_at, keyed_same, keyed_joined, keyed_partly}
use Rattle.log_pieces.specs.KeyedLaws.{value_at-keyed_joined}
use Rattle.log_pieces.specs.OptionLaws.{option_reflexive, option_joined-None}
use Rattle.log_pieces.proofs.Entries.{one_more, one_left, one_untouched}
use Rattle.log_pieces.proofs.Order.{absent_before}

-- of the entries `all` those in front are joined to a, which gave cur, and `rest` are left
pub record JoinedSoFar {K V : Type 0} (cmp : K → K → Ordering) (same : V → V → Type 0) (join : V → V → V) (a all rest cur : List (K × V)) : Type 0 where
  pub front : List (K × V)
  pub parts : all ≡ front ++ rest
  pub joined : keyed_same cmp same cur (keyed_joined cmp join a front)

-- no entry is left
pub so_far_all : {K V : Type 0} {cmp : K → K → Ordering} {same : V → V → Type 0} {join : V → V → V} {a all rest cur : List (K × V)}
    → rest ≡ [] → JoinedSoFar cmp same join a all rest cur → keyed_same cmp same cur (keyed_joined cmp join a all)
so_far_all end h = rw (h.parts, end, append-nil) h.joined

module _ {K V : Type 0} {cmp : K → K → Ordering} {same : V → V → Type 0} {join : V → V → V} {partly : V → V → V → Type 0} (laws : IsJoin same join partly) (exact : CmpEqualImpliesEq cmp) where
  -- all entries are left
  pub so_far_none : (a all : List (K × V)) → JoinedSoFar cmp same join a all all a
  so_far_none a all = record {
    front = [];
    parts = refl;
    joined = λ key. rw (value_at-keyed_joined cmp exact join a [] key, option_joined-None join (value_at cmp a key)) (option_reflexive laws _);
  }

  -- the next entry, in order of the keys
  module _ (order : IsTotalOrder cmp) {a all rest cur : List (K × V)} {e : K × V} {u : List (K × V)} (sorted : IsStrictlySortedBy cmp (keys_of all)) (next : rest ≡ e ∷ u) (h : JoinedSoFar cmp same join a all rest cur) where
    parts : all ≡ h.front ++ e ∷ u
    parts = h.parts ∙ ap (λ (l : List (K × V)). h.front ++ l) next

    absent : value_at cmp h.front e.0 ≡ None
    absent = absent_before cmp order h.front u e (subst (λ (l : List (K × V)). IsStrictlySortedBy cmp (keys_of l)) parts sorted)

    -- it was joined
    pub so_far_more : (new : List (K × V)) → keyed_same cmp same new (keyed_joined cmp join cur (e ∷ []))
        → JoinedSoFar cmp same join a all u new
    so_far_more new one = record {
      front = h.front ++ e ∷ [];
      parts = parts ∙ sym (append_assoc h.front (e ∷ []) u);
      joined = one_more laws cmp exact a h.front cur new e absent h.joined one;
    }

    -- it was joined in part
    pub so_far_left : (new : List (K × V)) → keyed_partly cmp same join partly cur (e ∷ []) new
        → keyed_partly cmp same join partly a all new
    so_far_left new one = rw parts (one_left laws cmp exact a h.front u cur new e absent h.joined one)

    -- it was not reached
    pub so_far_stopped : keyed_partly cmp same join partly a all cur
    so_far_stopped = so_far_left cur (one_untouched laws cmp exact cur e)
