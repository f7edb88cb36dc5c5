-- `==` of entries decides equality.
use Rattle.std.specs.Prelude.{◌≡◌, ℕ, Bool, false, refl, ◌==◌, ◌&&◌, List}
use Rattle.std.specs.Bool.{Decides}
use Rattle.std.specs.Cmp.Lexicographic.{pointwise}
use Rattle.std.proofs.Common.{ap, rules}
use Rattle.std.proofs.lemmas.Bool.Decides.{Decides-and, Decides-eqb, Decides-like, Decides-at}
use Rattle.std.proofs.lemmas.Slice.Eq.{slice_eq-Decides}
use denote.Enum.Bare.{same_true, true_same}
use Rattle.rw_objects.specs.contracts.touch.FoundPartialEq.TheImpl as founds
use Rattle.rw_objects.specs.contracts.entry.KindPartialEq.TheImpl as kinds
use Rattle.rw_objects.specs.contracts.entry.Kind.{the_type}
use Rattle.rw_objects.specs.contracts.entry.EntryPartialEq.TheImpl as entries
use Rattle.rw_objects.specs.declared.touch.Found.{Found}
use Rattle.rw_objects.specs.declared.touch.Found.TheVariants.{Read, Write}
use Rattle.rw_objects.specs.declared.entry.Kind.{Kind}
use Rattle.rw_objects.specs.declared.entry.Entry.{Entry}

read_is : (o p v w : ℕ) → o ≡ p → v ≡ w → Read o v ≡ Read p w
read_is o p v w a b = cc

write_is : (o p v w r s : ℕ) → o ≡ p → v ≡ w → r ≡ s → Write o v r ≡ Write p w s
write_is o p v w r s a b d = cc

-- `==` of what was found, by cases
abbrev found_eq : Found → Found → Bool
found_eq (Read o v) (Read p w) = (o == p) && (v == w)
found_eq (Write o v r) (Write p w s) = (o == p) && ((v == w) && (r == s))
found_eq x y = false

found_eq_is : (x y : Found) → (founds.eq-value).it x y ≡ found_eq x y
found_eq_is (Read o v) (Read p w) = refl
found_eq_is (Write o v r) (Write p w s) = refl
found_eq_is x y = refl

pub found_decides : (x y : Found) → Decides ((founds.eq-value).it x y) (x ≡ y)
found_decides x y = Decides-at _ _ (found_eq_is x y) (at x y) where
  at : (x y : Found) → Decides (found_eq x y) (x ≡ y)
  at (Read o v) (Read p w) = Decides-like _ (λ h. read_is o p v w h.0 h.1) (λ h. (cc, cc)) (Decides-and (o == p) (v == w) (Decides-eqb o p) (Decides-eqb v w))
  at (Write o v r) (Write p w s) =
      Decides-like _ (λ h. write_is o p v w r s h.0 h.1.0 h.1.1) (λ h. (cc, (cc, cc)))
      (Decides-and (o == p) ((v == w) && (r == s)) (Decides-eqb o p) (Decides-and (v == w) (r == s) (Decides-eqb v w) (Decides-eqb r s)))
  at x y = (λ h. absurd cc, λ h. absurd cc)

pub few_decides : {T : Type 0} (e : T → T → Bool) → ((x y : T) → Decides (e x y) (x ≡ y)) → (xs ys : List T) → Decides (pointwise e xs ys) (xs ≡ ys)
few_decides e d xs ys = slice_eq-Decides d xs ys _ refl

entry_is : (k l : Kind) (s t : List Found) → k ≡ l → s ≡ t → (let a : Entry = record { kind = k; found = s } in let b : Entry = record { kind = l; found = t } in a ≡ b)
entry_is k l s t g h = cc

pub entry_decides : (x y : Entry) → Decides ((entries.eq-value).it x y) (x ≡ y)
entry_decides x y =
    Decides-like _ (λ h. entry_is x.kind y.kind x.found y.found h.0 h.1) (λ h. (ap (λ (a : Entry). a.kind) h, ap (λ (a : Entry). a.found) h))
    (Decides-and ((kinds.eq-value).it x.kind y.kind) (pointwise (founds.eq-value).it x.found y.found)
    (same_true the_type (search rules) x.kind y.kind, true_same the_type x.kind y.kind) (few_decides (founds.eq-value).it found_decides x.found y.found))
