-- The join of what two maps have at one key keeps the laws of a join.
use Rattle.std.specs.Prelude.{◌≡◌, refl, Option, Some, None}
use Rattle.log_pieces.specs.Join.{IsJoin}
use Rattle.log_pieces.specs.Keyed.{option_joined, option_same, option_partly}

pub option_joined-None : {V : Type 0} (join : V → V → V) (a : Option V) → option_joined join a None ≡ a
option_joined-None join None = refl
option_joined-None join (Some x) = refl

-- nothing can be joined in part with nothing
pub option_partly-None : {V : Type 0} (partly : V → V → V → Type 0) (x c : Option V) → option_partly partly x None c → ⊥
option_partly-None partly None c h = h
option_partly-None partly (Some x) c h = h

module _ {V : Type 0} {same : V → V → Type 0} {join : V → V → V} {partly : V → V → V → Type 0} (laws : IsJoin same join partly) where
  pub option_reflexive : (a : Option V) → option_same same a a
  option_reflexive None = tt
  option_reflexive (Some x) = laws.reflexive x

  pub option_symmetric : (a b : Option V) → option_same same a b → option_same same b a
  option_symmetric None None h = tt
  option_symmetric None (Some y) h = h
  option_symmetric (Some x) None h = h
  option_symmetric (Some x) (Some y) h = laws.symmetric x y h

  pub option_transitive : (a b c : Option V) → option_same same a b → option_same same b c → option_same same a c
  option_transitive None None c h g = g
  option_transitive None (Some y) c h g = absurd h
  option_transitive (Some x) None c h g = absurd h
  option_transitive (Some x) (Some y) None h g = g
  option_transitive (Some x) (Some y) (Some z) h g = laws.transitive x y z h g

  pub option_respects : (a b c d : Option V) → option_same same a b → option_same same c d
      → option_same same (option_joined join a c) (option_joined join b d)
  option_respects None None c d h g = g
  option_respects None (Some y) c d h g = absurd h
  option_respects (Some x) None c d h g = absurd h
  option_respects (Some x) (Some y) None None h g = h
  option_respects (Some x) (Some y) None (Some w) h g = absurd g
  option_respects (Some x) (Some y) (Some z) None h g = absurd g
  option_respects (Some x) (Some y) (Some z) (Some w) h g = laws.respects x y z w h g

  pub option_associative : (a b c : Option V)
      → option_same same (option_joined join (option_joined join a b) c) (option_joined join a (option_joined join b c))
  option_associative None b c = option_reflexive (option_joined join b c)
  option_associative (Some x) None c = option_reflexive (option_joined join (Some x) c)
  option_associative (Some x) (Some y) None = laws.reflexive (join x y)
  option_associative (Some x) (Some y) (Some z) = laws.associative x y z

  pub option_commutative : (a b : Option V) → option_same same (option_joined join a b) (option_joined join b a)
  option_commutative None None = tt
  option_commutative None (Some y) = laws.reflexive y
  option_commutative (Some x) None = laws.reflexive x
  option_commutative (Some x) (Some y) = laws.commutative x y

  pub option_idempotent : (a : Option V) → option_same same (option_joined join a a) a
  option_idempotent None = tt
  option_idempotent (Some x) = laws.idempotent x

  pub option_completes : (a b c : Option V) → option_partly partly a b c
      → option_same same (option_joined join c b) (option_joined join a b)
  option_completes None b c h = absurd h
  option_completes (Some x) None c h = absurd h
  option_completes (Some x) (Some y) None h = absurd h
  option_completes (Some x) (Some y) (Some z) h = laws.completes x y z h

  pub option_laws : IsJoin (option_same same) (option_joined join) (option_partly partly)
  option_laws = record {
    reflexive = option_reflexive;
    symmetric = option_symmetric;
    transitive = option_transitive;
    respects = option_respects;
    associative = option_associative;
    commutative = option_commutative;
    idempotent = option_idempotent;
    completes = option_completes;
  }
