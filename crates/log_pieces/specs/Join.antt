-- What makes a function a join.

-- a is below b where joining a to b adds nothing
abbrev pub IsBelow : {V : Type 0} → (V → V → Type 0) → (V → V → V) → V → V → Type 0
IsBelow same join a b = same (join a b) b

-- the laws of a join, up to `same`; `partly a b c` says that c is what want of memory left of a, to which b was to be
-- joined
pub record IsJoin {V : Type 0} (same : V → V → Type 0) (join : V → V → V) (partly : V → V → V → Type 0) : Type 0 where
  -- `same` is an equivalence
  pub reflexive : (a : V) → same a a
  pub symmetric : (a b : V) → same a b → same b a
  pub transitive : (a b c : V) → same a b → same b c → same a c
  -- which the join respects
  pub respects : (a b c d : V) → same a b → same c d → same (join a c) (join b d)
  pub associative : (a b c : V) → same (join (join a b) c) (join a (join b c))
  pub commutative : (a b : V) → same (join a b) (join b a)
  pub idempotent : (a : V) → same (join a a) a
  -- joining again completes what want of memory left
  pub completes : (a b c : V) → partly a b c → same (join c b) (join a b)
