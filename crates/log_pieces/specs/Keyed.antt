-- Maps as lists of keys with values: the value at a key, and the join key by key.
use Rattle.std.specs.Prelude.{◌≡◌, Option, Some, None, List, [], ◌∷◌, ◌++◌, map, ◌⊎◌}
use Rattle.std.specs.Map.{lookup}
use Rattle.std.specs.BTreeMap.{is_at}
use Rattle.std.specs.declared.cmp.Ordering.{Ordering}

-- the value at a key, if there is one; of a key that stands twice the first value counts
abbrev pub value_at : {K V : Type 0} → (K → K → Ordering) → List (K × V) → K → Option V
value_at cmp es key = lookup (is_at (cmp key)) es

-- what one side has alone is kept, what both have is joined
abbrev pub option_joined : {V : Type 0} → (V → V → V) → Option V → Option V → Option V
option_joined join None b = b
option_joined join (Some x) None = Some x
option_joined join (Some x) (Some y) = Some (join x y)

-- both have nothing, or both have the same
abbrev pub option_same : {V : Type 0} → (V → V → Type 0) → Option V → Option V → Type 0
option_same same None None = Unit {0}
option_same same (Some x) (Some y) = same x y
option_same same a b = ⊥

-- a value that is there, to which another was joined in part
abbrev pub option_partly : {V : Type 0} → (V → V → V → Type 0) → Option V → Option V → Option V → Type 0
option_partly partly (Some x) (Some y) (Some z) = partly x y z
option_partly partly a b c = ⊥

-- a value joined with another, if there is one
abbrev pub joined_if : {V : Type 0} → (V → V → V) → V → Option V → V
joined_if join x None = x
joined_if join x (Some y) = join x y

-- the same at each key
abbrev pub keyed_same : {K V : Type 0} → (K → K → Ordering) → (V → V → Type 0) → List (K × V) → List (K × V) → Type 0
keyed_same {K} cmp same a b = (key : K) → option_same same (value_at cmp a key) (value_at cmp b key)

-- the entries of a, each joined with what b has at its key, and then those of b
abbrev pub keyed_joined : {K V : Type 0} → (K → K → Ordering) → (V → V → V) → List (K × V) → List (K × V) → List (K × V)
keyed_joined {K} {V} cmp join a b = map {B = K × V} (λ (e : K × V). (e.0, joined_if join e.1 (value_at cmp b e.0))) a ++ b

-- at one key: after is the value before, or is that value joined in part with the other one
abbrev pub left_at : {V : Type 0} → (V → V → Type 0) → (V → V → V → Type 0) → Option V → Option V → Option V → Type 0
left_at {V} same partly before other after =
    option_same same after before
    ⊎ ((x : Option V) × option_same same x before × option_partly partly x other after)

-- want of memory left c of a, to which b was to be joined: a joined with the first entries of b, in order, and the
-- value at the key of the next entry as it was or joined in part
pub record keyed_partly {K V : Type 0} (cmp : K → K → Ordering)
    (same : V → V → Type 0) (join : V → V → V) (partly : V → V → V → Type 0) (a b c : List (K × V)) : Type 0 where
  -- the entries joined, the one that was refused, and those that were not reached
  pub front : List (K × V)
  pub next : K × V
  pub rest : List (K × V)
  pub parts : b ≡ front ++ next ∷ rest
  -- the refused key is none of those joined
  pub absent : value_at cmp front next.0 ≡ None
  -- what is left at each key
  pub left : (key : K)
      → left_at same partly (value_at cmp (keyed_joined cmp join a front) key) (value_at cmp (next ∷ []) key) (value_at cmp c key)
