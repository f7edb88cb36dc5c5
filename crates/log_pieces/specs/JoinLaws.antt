-- What follows from the laws of a join.
use Rattle.log_pieces.specs.Join.{IsJoin, IsBelow}

module _ {V : Type 0} {same : V → V → Type 0} {join : V → V → V} {partly : V → V → V → Type 0} (laws : IsJoin same join partly) where
  -- joining a second time adds nothing
  pub join_again : (a b : V) → same (join (join a b) b) (join a b)
  join_again a b = laws.transitive _ _ _ (laws.associative a b b) (laws.respects a a (join b b) b (laws.reflexive a) (laws.idempotent b))

  -- a value is below its join with any other
  pub join_above : (a b : V) → IsBelow same join b (join a b)
  join_above a b = laws.transitive _ _ _ (laws.commutative b (join a b)) (join_again a b)
