-- Entries of a piece, joined one after the other.
use Rattle.std.proofs.Common.{◌≡◌, ℕ, suc, ◌+◌, ◌<◌, ◌≤◌, true, false, List, [], ◌∷◌, ◌++◌, length, Option, Some, None, refl, ap, ◌∙◌, arith}
use Rattle.std.specs.BTreeMap.{is_at}
use Rattle.std.specs.Ordering.{nat_cmp}
use Rattle.rw_objects.specs.declared.entry.Entry.{Entry}
use Rattle.rw_objects.specs.Decides.{entry_decides}
use Rattle.log_pieces.specs.declared.flat.Flat.{Flat}
use Rattle.log_pieces.specs.declared.flat.Flat.TheVariants.{Known}
use Rattle.log_pieces.specs.Flat.{flat_joined}
use Rattle.log_pieces.specs.FlatLaws.{flat_laws}
use Rattle.log_pieces.specs.Join.{IsJoin}
use Rattle.log_pieces.specs.Keyed.{value_at, option_joined, option_same, keyed_same, keyed_joined, keyed_partly}
use Rattle.log_pieces.specs.KeyedLaws.{value_at-keyed_joined}
use Rattle.std.proofs.lemmas.Map.Lookups.{CmpEqualImpliesEq}
use Rattle.log_pieces.proofs.Entries.{one_unchanged}
use Rattle.replica.specs.Items.{entry_eq, placed, EntriesJoined}

pub nat_exact : CmpEqualImpliesEq nat_cmp
nat_exact = λ x y h. grind arith

-- the same at `≡` is equality
pub same_is : {V : Type 0} (a b : Option V) → option_same (λ x y. x ≡ y) a b → a ≡ b
same_is None None h = refl
same_is None (Some y) h = absurd h
same_is (Some x) None h = absurd h
same_is (Some x) (Some y) h = ap (λ z. Some z) h

pub is_same : {V : Type 0} (a b : Option V) → a ≡ b → option_same (λ x y. x ≡ y) a b
is_same None None h = tt
is_same None (Some y) h = absurd cc
is_same (Some x) None h = absurd cc
is_same (Some x) (Some y) h = cc

Known_laws : IsJoin (λ (a b : Flat Entry). a ≡ b) (flat_joined entry_eq) (λ a b c. ⊥)
Known_laws = flat_laws entry_eq entry_decides

pub placed-append : (first : ℕ) (es fs : List Entry) → placed first (es ++ fs) ≡ placed first es ++ placed (first + length es) fs
placed-append first [] fs = let e : first + 0 ≡ first = omega arith in rw e refl
placed-append first (e ∷ es) fs = let h : first + suc (length es) ≡ suc first + length es = omega arith in rw h (ap (λ (l : List (ℕ × Flat Entry)). (first, Known e) ∷ l) (placed-append (suc first) es fs))

at_place : (x y : ℕ) → is_at (nat_cmp x) y ≡ true → x ≡ y
at_place x y h = grind arith

apart : (x y : ℕ) → x < y → is_at (nat_cmp y) x ≡ false
apart x y l = grind arith

-- no entry is placed past the last
pub placed_past : (first q : ℕ) (es : List Entry) → first + length es ≤ q → value_at nat_cmp (placed first es) q ≡ None
placed_past first q [] le = refl
placed_past first q (e ∷ es) le = rw (apart first q (omega arith), placed_past (suc first) q es (omega arith)) refl

-- what one joined entry leaves
pub one_joined : (old new : List (ℕ × Flat Entry)) (e : ℕ × Flat Entry) → keyed_same nat_cmp (λ x y. x ≡ y) new (keyed_joined nat_cmp (flat_joined entry_eq) old (e ∷ []))
    → (q : ℕ) → value_at nat_cmp new q ≡ option_joined (flat_joined entry_eq) (value_at nat_cmp old q) (value_at nat_cmp (e ∷ []) q)
one_joined old new e h q = same_is _ _ (h q) ∙ value_at-keyed_joined nat_cmp nat_exact (flat_joined entry_eq) old (e ∷ []) q

joined_nothing : (a : Option (Flat Entry)) → option_joined (flat_joined entry_eq) a None ≡ a
joined_nothing None = refl
joined_nothing (Some x) = refl

-- a refused growth leaves the entries as they were
pub entries_left : (old cur new : List (ℕ × Flat Entry)) (first place : ℕ) (es : List Entry) (e : Entry) → EntriesJoined old first es cur
    → keyed_partly nat_cmp (λ x y. x ≡ y) (flat_joined entry_eq) (λ a b c. ⊥) cur ((place, Known e) ∷ []) new → EntriesJoined old first es new
entries_left old cur new first place es e so_far left q = same_is _ _ (one_unchanged Known_laws nat_cmp nat_exact (λ x y z h. h) cur new (place, Known e) left q) ∙ so_far q
