-- Values that are passed over.
use Rattle.std.proofs.Common.{◌≡◌, ℕ, Bool, true, false, List, [], ◌∷◌, Option, Some, None, refl, ap, sym, ◌∙◌}
use Rattle.std.specs.Prelude.{nat_lt, is_some, if◌then◌else◌}
use Rattle.std.specs.Option.{option_and_then, option_map}
use Rattle.std.specs.Borrow.{Bor}
use Rattle.rw_objects.specs.declared.touch.Found.{Found}
use Rattle.rw_objects.specs.declared.entry.Kind.{Kind}
use Rattle.rw_objects.specs.declared.entry.Entry.{Entry}
use Rattle.log_pieces.specs.Packed.{behind_read}
use Rattle.log_pieces.specs.Reading.{◌>>=◌, gives, refuses, or_refuses, read_u8, read_times, read_touch, kind_at, read_head, read_entry}

module _ {A : Type 0} where
  -- a value that was passed over was read
  pub passed_some : (read : Option (A × List ℕ)) (rest : List ℕ) → behind_read read ≡ Some rest → (x : A) × (read ≡ Some (x, rest))
  passed_some None rest e = absurd (cc e)
  passed_some (Some x) rest e = let same : x.1 ≡ rest = cc in (x.0, ap (λ (r : List ℕ). Some (x.0, r)) same)

  pub passed_none : (read : Option (A × List ℕ)) → behind_read read ≡ None → read ≡ None
  passed_none None e = refl
  passed_none (Some x) e = absurd (cc e)

-- an entry of a kind, once its touches were read
abbrev pub entry_of : Kind → Option (List Found × List ℕ) → Option (Entry × List ℕ)
entry_of kind touches = option_and_then (λ x. gives (record { kind = kind; found = x.0 }) x.1) touches

-- the touches of an entry, once what stands before them was read
abbrev pub after_head : Option ((Kind × ℕ) × List ℕ) → Option (Entry × List ℕ)
after_head head = option_and_then (λ h. entry_of h.0.0 (read_times h.0.1 read_touch h.1)) head

by_count : (few : Bool) (kind : Kind) (count : ℕ) (rest : List ℕ)
    → (if few then refuses else (read_times count read_touch >>= λ found. gives (record { kind = kind; found = found }))) rest ≡ after_head ((if few then refuses else gives (kind, count)) rest)
by_count true kind count rest = refl
by_count false kind count rest = refl

by_kind : (kind : Option Kind) (rest : List ℕ)
    → (or_refuses kind >>= λ kind. read_u8 >>= λ count. if nat_lt 3 count then refuses else (read_times count read_touch >>= λ found. gives (record { kind = kind; found = found }))) rest
    ≡ after_head ((or_refuses kind >>= λ kind. read_u8 >>= λ count. if nat_lt 3 count then refuses else gives (kind, count)) rest)
by_kind None rest = refl
by_kind (Some kind) [] = refl
by_kind (Some kind) (count ∷ rest) = by_count (nat_lt 3 count) kind count rest

-- an entry is what stands before its touches, and these
pub entry_by_head : (bytes : List ℕ) → read_entry bytes ≡ after_head (read_head bytes)
unfolding read_entry read_head
entry_by_head [] = refl
entry_by_head (kind ∷ rest) = by_kind (kind_at kind) rest

pub behind_entry : (kind : Kind) (touches : Option (List Found × List ℕ)) → behind_read (entry_of kind touches) ≡ behind_read touches
behind_entry kind None = refl
behind_entry kind (Some x) = refl

-- an entry whose head was read, with the touches that were put into a list
module _ (bytes rest : List ℕ) (kind : Kind) (count : ℕ) (found : List Found) (head : read_head bytes ≡ Some ((kind, count), rest)) where
  pub entry_put : (left : Option (Bor (List ℕ))) → option_map (λ r. (found, r.now)) left ≡ read_times count read_touch rest → is_some left ≡ true
      → (behind : List ℕ) × (read_entry bytes ≡ Some (record { kind = kind; found = found }, behind))
  entry_put None touches some = absurd (cc some)
  entry_put (Some r) touches some = (r.now, entry_by_head bytes ∙ ap after_head head ∙ ap (entry_of kind) (sym touches))

  pub no_entry_put : (left : Option (Bor (List ℕ))) → option_map (λ r. (found, r.now)) left ≡ read_times count read_touch rest → is_some left ≡ false → read_entry bytes ≡ None
  no_entry_put None touches none = entry_by_head bytes ∙ ap after_head head ∙ ap (entry_of kind) (sym touches)
  no_entry_put (Some r) touches none = absurd (cc none)
