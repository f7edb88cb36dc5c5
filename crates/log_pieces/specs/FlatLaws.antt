-- The join of two claims about one item keeps the laws of a join.
use Rattle.std.specs.Prelude.{◌≡◌, Bool, true, false, refl}
use Rattle.std.specs.Bool.{Decides}
use Rattle.std.proofs.Common.{sym, ◌∙◌, ap}
use Rattle.log_pieces.specs.declared.flat.Flat.{Flat}
use Rattle.log_pieces.specs.declared.flat.Flat.TheVariants.{Known, Clash}
use Rattle.log_pieces.specs.Flat.{flat_joined}
use Rattle.log_pieces.specs.Join.{IsJoin}

-- two items, by a test that decides equality: they are one, or it says no
pub data OneOrTwo {T : Type 0} (eq : T → T → Bool) (x y : T) : Type 0 where
  one : x ≡ y → eq x y ≡ true → OneOrTwo eq x y
  two : (x ≡ y → ⊥) → eq x y ≡ false → OneOrTwo eq x y

pub one_or_two : {T : Type 0} (eq : T → T → Bool) (d : (x y : T) → Decides (eq x y) (x ≡ y)) (x y : T) → OneOrTwo eq x y
one_or_two eq d x y = chosen (eq x y) refl where
  chosen : (b : Bool) → eq x y ≡ b → OneOrTwo eq x y
  chosen true e = one ((d x y).0 e) e
  chosen false e = two (λ h. let p : eq x y ≡ true = (d x y).1 h in cc) e

module _ {T : Type 0} (eq : T → T → Bool) (d : (x y : T) → Decides (eq x y) (x ≡ y)) where
  joined_alike : (x y : T) → x ≡ y → flat_joined eq (Known x) (Known y) ≡ Known x
  joined_alike x y h = rw ((d x y).1 h) refl

  joined_apart : (x y : T) → eq x y ≡ false → flat_joined eq (Known x) (Known y) ≡ Clash
  joined_apart x y h = rw h refl

  joined_clash : (a : Flat T) → flat_joined eq a Clash ≡ Clash
  joined_clash (Known x) = refl
  joined_clash Clash = refl

  flat_idempotent : (a : Flat T) → flat_joined eq a a ≡ a
  flat_idempotent (Known x) = joined_alike x x refl
  flat_idempotent Clash = refl

  flat_commutative : (a b : Flat T) → flat_joined eq a b ≡ flat_joined eq b a
  flat_commutative Clash b = sym (joined_clash b)
  flat_commutative (Known x) Clash = refl
  flat_commutative (Known x) (Known y) = elim (one_or_two eq d x y) [
    | one h t ↦ joined_alike x y h ∙ ap (λ (t : _). Known t) h ∙ sym (joined_alike y x (sym h))
    | two h t ↦ joined_apart x y t ∙ sym (elim (one_or_two eq d y x) [ one g s ↦ absurd (h (sym g)) | two g s ↦ joined_apart y x s ])
  ]

  flat_associative : (a b c : Flat T) → flat_joined eq (flat_joined eq a b) c ≡ flat_joined eq a (flat_joined eq b c)
  flat_associative Clash b c = refl
  flat_associative (Known x) Clash c = refl
  flat_associative (Known x) (Known y) Clash = joined_clash (flat_joined eq (Known x) (Known y))
  flat_associative (Known x) (Known y) (Known z) = elim (one_or_two eq d x y) [
    | one h t ↦ rw (joined_alike x y h, h) (elim (one_or_two eq d y z) [
      | one g s ↦ rw (joined_alike y z g) (sym (joined_alike y y refl))
      | two g s ↦ rw (joined_apart y z s) refl
    ])
    | two h t ↦ rw (joined_apart x y t) (elim (one_or_two eq d y z) [
      | one g s ↦ rw (joined_alike y z g, joined_apart x y t) refl
      | two g s ↦ rw (joined_apart y z s) refl
    ])
  ]

  pub flat_laws : IsJoin (λ (a b : Flat T). a ≡ b) (flat_joined eq) (λ (a b c : Flat T). ⊥)
  flat_laws = record {
    reflexive = λ a. refl;
    symmetric = λ a b h. sym h;
    transitive = λ a b c h g. h ∙ g;
    respects = λ a b c e h g. cc;
    associative = flat_associative;
    commutative = flat_commutative;
    idempotent = flat_idempotent;
    completes = λ a b c h. absurd h;
  }
