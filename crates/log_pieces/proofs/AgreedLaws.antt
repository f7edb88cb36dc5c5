-- What a set of claims comes to is one thing, depends on the set alone, and is joined as sets are put together.
use Rattle.std.specs.Prelude.{◌≡◌, Bool, refl, Option, Some, None, ◌⊎◌}
use Rattle.std.specs.Bool.{Decides}
use Rattle.std.proofs.Common.{sym, ◌∙◌, ap, inl, inr}
use Rattle.log_pieces.specs.declared.flat.Flat.{Flat}
use Rattle.log_pieces.specs.declared.flat.Flat.TheVariants.{Known, Clash}
use Rattle.log_pieces.specs.Agreed.{IsAgreed}
use Rattle.log_pieces.specs.Flat.{flat_joined}
use Rattle.log_pieces.specs.FlatLaws.{one, two, one_or_two}
use Rattle.log_pieces.specs.Keyed.{option_joined}

pub agreed_once : {T : Type 0} (C : T → Type 0) (a b : Option (Flat T)) → IsAgreed C a → IsAgreed C b → a ≡ b
agreed_once C None None h g = refl
agreed_once C None (Some (Known x)) h g = absurd (h x g.0)
agreed_once C None (Some Clash) h g = absurd (h g.0 g.2)
agreed_once C (Some (Known x)) None h g = absurd (g x h.0)
agreed_once C (Some (Known x)) (Some (Known y)) h g = ap (λ (z : _). Some (Known z)) (sym (h.1 y g.0))
agreed_once C (Some (Known x)) (Some Clash) h g = absurd (g.4 (h.1 g.0 g.2 ∙ sym (h.1 g.1 g.3)))
agreed_once C (Some Clash) None h g = absurd (g h.0 h.2)
agreed_once C (Some Clash) (Some (Known x)) h g = absurd (h.4 (g.1 h.0 h.2 ∙ sym (g.1 h.1 h.3)))
agreed_once C (Some Clash) (Some Clash) h g = refl

-- two predicates that hold of the same items are one set
pub agreed_like : {T : Type 0} (C D : T → Type 0) → ((x : T) → C x → D x) → ((x : T) → D x → C x) → (a : Option (Flat T)) → IsAgreed C a
    → IsAgreed D a
agreed_like C D f g None h = λ x d. h x (g x d)
agreed_like C D f g (Some (Known x)) h = (f x h.0, λ y d. h.1 y (g y d))
agreed_like C D f g (Some Clash) h = (h.0, h.1, f h.0 h.2, f h.1 h.3, h.4)

-- the join of what two sets come to is what both together come to
pub agreed_joined : {T : Type 0} (eq : T → T → Bool) (d : (x y : T) → Decides (eq x y) (x ≡ y)) (C D : T → Type 0) (a b : Option (Flat T))
    → IsAgreed C a → IsAgreed D b → IsAgreed (λ x. C x ⊎ D x) (option_joined (flat_joined eq) a b)
agreed_joined eq d C D None None h g = λ x e. elim e [ inl c ↦ h x c | inr c ↦ g x c ]
agreed_joined eq d C D None (Some (Known y)) h g = (inr g.0, λ z e. elim e [ inl c ↦ absurd (h z c) | inr c ↦ g.1 z c ])
agreed_joined eq d C D None (Some Clash) h g = (g.0, g.1, inr g.2, inr g.3, g.4)
agreed_joined eq d C D (Some (Known x)) None h g = (inl h.0, λ z e. elim e [ inl c ↦ h.1 z c | inr c ↦ absurd (g z c) ])
agreed_joined eq d C D (Some Clash) None h g = (h.0, h.1, inl h.2, inl h.3, h.4)
agreed_joined eq d C D (Some (Known x)) (Some (Known y)) h g = elim (one_or_two eq d x y) [
  | one e t ↦ rw t (inl h.0, λ z c. elim c [ inl k ↦ h.1 z k | inr k ↦ g.1 z k ∙ sym e ])
  | two ne t ↦ rw t (x, y, inl h.0, inr g.0, ne)
]
agreed_joined eq d C D (Some (Known x)) (Some Clash) h g = (g.0, g.1, inr g.2, inr g.3, g.4)
agreed_joined eq d C D (Some Clash) (Some b) h g = (h.0, h.1, inl h.2, inl h.3, h.4)
