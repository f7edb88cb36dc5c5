-- Entries that are read from bytes touch by touch.
use Rattle.std.proofs.Common.{◌≡◌, ℕ, List, [], Option, Some, None, refl, ap}
use Rattle.rw_objects.specs.declared.touch.Found.{Found}
use Rattle.rw_objects.specs.declared.entry.Kind.{Kind}
use Rattle.rw_objects.specs.declared.entry.Entry.{Entry}
use Rattle.log_pieces.proofs.Loop.{behind}
use Rattle.log_pieces.proofs.Passing.{entry_of}

-- the value that was read, or another
value_or : {A : Type 0} → A → Option (A × List ℕ) → A
value_or other None = other
value_or other (Some x) = x.0

pub same_read : {A : Type 0} (x y : A) (rest other : List ℕ) → ◌≡◌ {A = Option (A × List ℕ)} (Some (x, rest)) (Some (y, other)) → x ≡ y
unfolding value_or
same_read x y rest other e = ap (value_or x) e

pub whole : {A : Type 0} (touches : Option (List A × List ℕ)) → behind [] touches ≡ touches
whole None = refl
whole (Some x) = refl

-- an entry that was read has the kind, and the touches that were read
pub has_touches : (kind : Kind) (touches : Option (List Found × List ℕ)) (entry : Entry) (rest : List ℕ) → entry_of kind touches ≡ Some (entry, rest)
    → (found : List Found) × (behind : List ℕ) × (touches ≡ Some (found, behind)) × (record { kind = kind; found = found } ≡ entry)
has_touches kind None entry rest e = absurd (cc e)
has_touches kind (Some x) entry rest e = (x.0, x.1, refl, same_read (record { kind = kind; found = x.0 }) entry x.1 rest e)
