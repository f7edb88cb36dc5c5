-- `==` decides equality, and `cmp` finds identical keys alone.
use Rattle.std.specs.Prelude.{◌≡◌, Bool, true, false, refl, ◌&&◌, List}
use Rattle.std.specs.Bool.{Decides}
use Rattle.std.specs.Cmp.Lexicographic.{pointwise}
use Rattle.std.specs.Ordering.{is_eq}
use Rattle.std.specs.declared.cmp.Ordering.{Ordering}
use Rattle.std.proofs.Common.{sym, ◌∙◌, ap}
use Rattle.std.proofs.lemmas.Bool.Decides.{Decides-and, Decides-like}
use Rattle.std.proofs.lemmas.Map.Lookups.{CmpEqualImpliesEq}
use Rattle.std.proofs.lemmas.Slice.Eq.{slice_eq-Decides}
use Rattle.log_pieces.specs.declared.both.Both.{Both}
use Rattle.log_pieces.specs.declared.flat.Flat.{Flat}
use Rattle.log_pieces.specs.declared.flat.Flat.TheVariants.{Known, Clash}

pub flat_decides : {T : Type 0} (eq : T → T → Bool) (d : (x y : T) → Decides (eq x y) (x ≡ y)) (e : Flat T → Flat T → Bool)
    → ((x y : T) → e (Known x) (Known y) ≡ eq x y) → ((x : T) → e (Known x) Clash ≡ false) → ((x : T) → e Clash (Known x) ≡ false) → e Clash Clash ≡ true
    → (a b : Flat T) → Decides (e a b) (a ≡ b)
flat_decides eq d e kk kc ck cl (Known x) (Known y) = (λ h. ap (λ (t : _). Known t) ((d x y).0 (sym (kk x y) ∙ h)), λ h. kk x y ∙ (d x y).1 cc)
flat_decides eq d e kk kc ck cl (Known x) Clash = (λ h. absurd (let k = kc x in cc), λ h. absurd cc)
flat_decides eq d e kk kc ck cl Clash (Known y) = (λ h. absurd (let k = ck y in cc), λ h. absurd cc)
flat_decides eq d e kk kc ck cl Clash Clash = (λ h. refl, λ h. cl)

both_is : {A B : Type 0} (x u : A) (y w : B) → x ≡ u → y ≡ w
    → (let p : Both A B = record { first = x; second = y } in let q : Both A B = record { first = u; second = w } in p ≡ q)
both_is x u y w h g = cc

pub both_decides : {A B : Type 0} (e : A → A → Bool) (f : B → B → Bool) → ((x y : A) → Decides (e x y) (x ≡ y))
    → ((x y : B) → Decides (f x y) (x ≡ y)) → (a b : Both A B) → Decides (e a.first b.first && f a.second b.second) (a ≡ b)
both_decides {A} {B} e f d g a b =
    Decides-like _ (λ h. both_is a.first b.first a.second b.second h.0 h.1) (λ h. (ap (λ (p : Both A B). p.first) h, ap (λ (p : Both A B). p.second) h))
    (Decides-and (e a.first b.first) (f a.second b.second) (d a.first b.first) (g a.second b.second))

pair_is : {K V : Type 0} (x u : K) (y w : V) → x ≡ u → y ≡ w → (let p : K × V = (x, y) in let q : K × V = (u, w) in p ≡ q)
pair_is x u y w h g = cc

pub keyed_decides : {K V : Type 0} (e : K → K → Bool) (f : V → V → Bool) → ((x y : K) → Decides (e x y) (x ≡ y))
    → ((x y : V) → Decides (f x y) (x ≡ y)) → (a b : List (K × V))
    → Decides (pointwise (λ (p q : K × V). e p.0 q.0 && f p.1 q.1) a b) (a ≡ b)
keyed_decides {K} {V} e f d g a b = slice_eq-Decides pairs a b _ refl where
  pairs : (p q : K × V) → Decides (e p.0 q.0 && f p.1 q.1) (p ≡ q)
  pairs p q =
      Decides-like _ (λ h. pair_is p.0 q.0 p.1 q.1 h.0 h.1) (λ h. (ap (λ (r : K × V). r.0) h, ap (λ (r : K × V). r.1) h))
      (Decides-and (e p.0 q.0) (f p.1 q.1) (d p.0 q.0) (g p.1 q.1))

-- keys that `cmp` finds equal are identical
pub cmp_exact : {K : Type 0} (eq : K → K → Bool) (cmp : K → K → Ordering) → ((x y : K) → Decides (eq x y) (x ≡ y))
    → ((x y : K) → eq x y ≡ is_eq (cmp x y)) → CmpEqualImpliesEq cmp
cmp_exact eq cmp d m x y h = (d x y).0 (m x y ∙ ap is_eq h)
