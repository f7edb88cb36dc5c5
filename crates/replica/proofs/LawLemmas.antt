-- Laws of the logs of pieces.
use Rattle.std.proofs.Common.{◌≡◌, ℕ, zero, suc, Bool, true, false, cond, List, [], ◌∷◌, length, take, Option, Some, None, refl, ap, ◌∙◌, inl, inr, ◌⊎◌}
use Rattle.std.specs.Prelude.{nat_lt, ◌==◌, if◌then◌else◌}
use Rattle.std.specs.Bool.{Decides}
use Rattle.std.specs.Option.{option_map}
use Rattle.std.specs.BTreeMap.{is_at}
use Rattle.std.specs.Ordering.{nat_cmp}
use Rattle.rw_objects.specs.declared.entry.Entry.{Entry}
use Rattle.rw_objects.specs.Decides.{entry_decides}
use Rattle.log_pieces.specs.declared.end.End.{End}
use Rattle.log_pieces.specs.Decides.{end_decides}
use Rattle.log_pieces.specs.Piece.{PieceValue}
use Rattle.log_pieces.specs.declared.flat.Flat.{Flat}
use Rattle.log_pieces.specs.declared.flat.Flat.TheVariants.{Known}
use Rattle.log_pieces.specs.Flat.{flat_joined}
use Rattle.log_pieces.specs.FlatLaws.{flat_laws}
use Rattle.log_pieces.specs.Keyed.{value_at, option_joined}
use Rattle.log_pieces.specs.OptionLaws.{option_associative, option_idempotent}
use Rattle.log_pieces.proofs.AgreedLaws.{agreed_like, agreed_once}
use Rattle.replica.specs.declared.log.Log.{Log}
use Rattle.replica.specs.Log.{entry_at, end_at}
use Rattle.replica.specs.Items.{entry_eq, end_eq, placed}
use Rattle.replica.specs.LogOf.{ClaimsEntry, ClaimsEnd, IsLogOf, Among, IsJoinedWith, IsSameLog, first_items, piece_entry, piece_end}
use Rattle.replica.proofs.ItemLemmas.{same_is}
use Rattle.replica.proofs.LogLemmas.{nothing_joined}

-- nothing of it, or all of it
abbrev pub IsPart : {T : Type 0} → Option T → Option T → Type 0
IsPart part whole = (part ≡ None) ⊎ (part ≡ whole)

pub joined_again : {T : Type 0} (eq : T → T → Bool) (d : (x y : T) → Decides (eq x y) (x ≡ y)) (old part whole : Option (Flat T)) → IsPart part whole
    → option_joined (flat_joined eq) (option_joined (flat_joined eq) old part) whole ≡ option_joined (flat_joined eq) old whole
joined_again eq d old part whole h = elim h [
  | inl none ↦ rw (none, nothing_joined eq old) refl
  | inr all ↦ rw all (same_is _ _ (option_associative (flat_laws eq d) old whole whole)
      ∙ ap (λ (o : _). option_joined (flat_joined eq) old o) (same_is _ _ (option_idempotent (flat_laws eq d) whole)))
]

-- the first of the placed entries
placed_part : (count first q : ℕ) (es : List Entry) → IsPart (value_at nat_cmp (placed first (take count es)) q) (value_at nat_cmp (placed first es) q)
placed_part zero first q es = inl refl
placed_part (suc count) first q [] = inl refl
placed_part (suc count) first q (e ∷ es) = at (is_at (nat_cmp q) first) (placed_part count (suc first) q es) where
  at : (t : Bool) → IsPart (value_at nat_cmp (placed (suc first) (take count es)) q) (value_at nat_cmp (placed (suc first) es) q)
      → IsPart (cond t (Some (Known e)) (value_at nat_cmp (placed (suc first) (take count es)) q)) (cond t (Some (Known e)) (value_at nat_cmp (placed (suc first) es) q))
  at true ih = inr refl
  at false ih = ih

if_part : {T : Type 0} (t : Bool) (part whole : Option T) → IsPart part whole → IsPart (if t then part else None) (if t then whole else None)
if_part true part whole h = h
if_part false part whole h = inl refl

entry_part : (count : ℕ) (piece : PieceValue) (thread place : ℕ) → IsPart (piece_entry (first_items count piece) thread place) (piece_entry piece thread place)
entry_part count piece thread place = if_part (thread == piece.thread) _ _ (placed_part count piece.first place piece.entries)

known_part : (t : Bool) (end : Option End) → IsPart (option_map (λ e. Known e) (if t then end else None)) (option_map (λ e. Known e) end)
known_part true end = inr refl
known_part false end = inl refl

end_part : (count : ℕ) (piece : PieceValue) (thread : ℕ) → IsPart (piece_end (first_items count piece) thread) (piece_end piece thread)
end_part count piece thread = if_part (thread == piece.thread) _ _ (known_part (nat_lt (length piece.entries) count) piece.end)

pub again_completes : (old part new : Log) (piece : PieceValue) (count : ℕ) → IsJoinedWith old (first_items count piece) part → IsJoinedWith part piece new → IsJoinedWith old piece new
again_completes old part new piece count first second = record {
  key = second.key ∙ first.key;
  entries = λ thread place. second.entries thread place
      ∙ ap (λ (o : _). option_joined (flat_joined entry_eq) o (piece_entry piece thread place)) (first.entries thread place)
      ∙ joined_again entry_eq entry_decides (entry_at old thread place) _ (piece_entry piece thread place) (entry_part count piece thread place);
  ends = λ thread. second.ends thread
      ∙ ap (λ (o : _). option_joined (flat_joined end_eq) o (piece_end piece thread)) (first.ends thread)
      ∙ joined_again end_eq end_decides (end_at old thread) _ (piece_end piece thread) (end_part count piece thread);
}

pub one_log : (ps qs : List PieceValue) → ((piece : PieceValue) → Among ps piece → Among qs piece) → ((piece : PieceValue) → Among qs piece → Among ps piece)
    → (a b : Log) → IsLogOf (Among ps) a → IsLogOf (Among qs) b → IsSameLog a b
one_log ps qs there back a b la lb = record {
  entries = λ thread place. agreed_once (λ e. (piece : PieceValue) × Among qs piece × ClaimsEntry piece thread place e) (entry_at a thread place) (entry_at b thread place)
      (agreed_like (λ e. (piece : PieceValue) × Among ps piece × ClaimsEntry piece thread place e) (λ e. (piece : PieceValue) × Among qs piece × ClaimsEntry piece thread place e)
      (λ e c. (c.0, there c.0 c.1, c.2)) (λ e c. (c.0, back c.0 c.1, c.2)) _ (la.entries thread place))
      (lb.entries thread place);
  ends = λ thread. agreed_once (λ e. (piece : PieceValue) × Among qs piece × ClaimsEnd piece thread e) (end_at a thread) (end_at b thread)
      (agreed_like (λ e. (piece : PieceValue) × Among ps piece × ClaimsEnd piece thread e) (λ e. (piece : PieceValue) × Among qs piece × ClaimsEnd piece thread e)
      (λ e c. (c.0, there c.0 c.1, c.2)) (λ e c. (c.0, back c.0 c.1, c.2)) _ (la.ends thread))
      (lb.ends thread);
}
