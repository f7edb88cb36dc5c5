-- The join of two values side by side keeps the laws of a join.
use Rattle.std.proofs.Common.{inl, inr}
use Rattle.log_pieces.specs.declared.both.Both.{Both}
use Rattle.log_pieces.specs.Both.{both_same, both_joined, both_partly}
use Rattle.log_pieces.specs.Join.{IsJoin}
use Rattle.log_pieces.specs.JoinLaws.{join_again}

module _ {A B : Type 0} {same : A → A → Type 0} {join : A → A → A} {partly : A → A → A → Type 0} {same' : B → B → Type 0} {join' : B → B → B} {partly' : B → B → B → Type 0}
    (first : IsJoin same join partly) (second : IsJoin same' join' partly') where
  both_completes : (a b c : Both A B) → both_partly same join partly partly' a b c
      → both_same same same' (both_joined join join' c b) (both_joined join join' a b)
  both_completes a b c (inl h) = (first.completes _ _ _ h.0, rw h.1 (second.reflexive _))
  both_completes a b c (inr h) = (first.transitive _ _ _ (first.respects _ _ _ _ h.0 (first.reflexive b.first)) (join_again first a.first b.first), second.completes _ _ _ h.1)

  pub both_laws : IsJoin (both_same same same') (both_joined join join') (both_partly same join partly partly')
  both_laws = record {
    reflexive = λ a. (first.reflexive a.first, second.reflexive a.second);
    symmetric = λ a b h. (first.symmetric _ _ h.0, second.symmetric _ _ h.1);
    transitive = λ a b c h g. (first.transitive _ _ _ h.0 g.0, second.transitive _ _ _ h.1 g.1);
    respects = λ a b c d h g. (first.respects _ _ _ _ h.0 g.0, second.respects _ _ _ _ h.1 g.1);
    associative = λ a b c. (first.associative _ _ _, second.associative _ _ _);
    commutative = λ a b. (first.commutative _ _, second.commutative _ _);
    idempotent = λ a. (first.idempotent _, second.idempotent _);
    completes = both_completes;
  }
