-- A piece joined to a log, and the log of a set of pieces.
use Rattle.std.proofs.Common.{◌≡◌, ℕ, zero, suc, ◌-◌, ◌≤◌, Bool, true, false, List, [], ◌∷◌, length, take, Option, Some, None, refl, sym, ap, subst, ◌∙◌, arith, inl, inr, ◌⊎◌}
use Rattle.std.specs.Prelude.{min, nat_lt, slice_get, ◌==◌}
use Rattle.std.proofs.Math.ListN.{set}
use Rattle.std.specs.Option.{option_map}
use Rattle.std.specs.BTreeMap.{is_at}
use Rattle.std.specs.Ordering.{nat_cmp}
use Rattle.std.proofs.Math.Seq.{take-length}
use Rattle.std.proofs.lemmas.List.{take_all}
use Rattle.std.proofs.lemmas.Bool.{cases_eq, cases_lt, eq-eqb}
use Rattle.rw_objects.specs.declared.entry.Entry.{Entry}
use Rattle.rw_objects.specs.Decides.{entry_decides}
use Rattle.log_pieces.specs.declared.end.End.{End}
use Rattle.log_pieces.specs.Piece.{PieceValue}
use Rattle.log_pieces.specs.declared.flat.Flat.{Flat}
use Rattle.log_pieces.specs.declared.flat.Flat.TheVariants.{Known}
use Rattle.log_pieces.specs.Flat.{flat_joined}
use Rattle.log_pieces.specs.Keyed.{value_at, option_joined}
use Rattle.log_pieces.specs.Agreed.{IsAgreed}
use Rattle.log_pieces.proofs.AgreedLaws.{agreed_like, agreed_joined}
use Rattle.log_pieces.specs.Decides.{end_decides}
use Rattle.replica.specs.declared.thread_log.ThreadLog.{ThreadLog}
use Rattle.replica.specs.declared.log.Log.{Log}
use Rattle.replica.specs.Log.{entry_at, end_at}
use Rattle.replica.specs.Items.{entry_eq, end_eq, placed, EntriesJoined}
use Rattle.replica.specs.LogOf.{ClaimsEntry, ClaimsEnd, IsLogOf, Among, IsJoinedWith, first_items, piece_entry, piece_end}

pub get_set_same : {X : Type 0} (xs : List X) (i : ℕ) (x y : X) → slice_get xs i ≡ Some x → slice_get (set xs i y) i ≡ Some y
get_set_same [] i x y h = absurd cc
get_set_same (z ∷ xs) zero x y h = refl
get_set_same (z ∷ xs) (suc i) x y h = get_set_same xs i x y h

pub get_set_other : {X : Type 0} (xs : List X) (i k : ℕ) (y : X) → (k ≡ i → ⊥) → slice_get (set xs i y) k ≡ slice_get xs k
get_set_other [] i k y ne = refl
get_set_other (z ∷ xs) zero zero y ne = absurd (ne refl)
get_set_other (z ∷ xs) zero (suc k) y ne = refl
get_set_other (z ∷ xs) (suc i) zero y ne = refl
get_set_other (z ∷ xs) (suc i) (suc k) y ne = get_set_other xs i k y (λ h. ne (ap suc h))

-- a log with the items of one thread changed
abbrev pub with_thread : Log → ℕ → ThreadLog → Log
with_thread log thread new = record { key = log.key; threads = set log.threads thread new }

pub nothing_joined : {T : Type 0} (eq : T → T → Bool) (o : Option (Flat T)) → option_joined (flat_joined eq) o None ≡ o
nothing_joined eq None = refl
nothing_joined eq (Some x) = refl

same : (x y : ℕ) → x ≡ y → (x == y) ≡ true
same x y h = eq-eqb x y h

other : (x y : ℕ) → (x ≡ y → ⊥) → (x == y) ≡ false
other x y ne = grind arith

-- joining a piece's items to its thread joins the piece to the log
pub thread_joined : (log : Log) (old new : ThreadLog) (piece : PieceValue) → slice_get log.threads piece.thread ≡ Some old
    → EntriesJoined old.entries piece.first piece.entries new.entries
    → new.end ≡ option_joined (flat_joined end_eq) old.end (option_map (λ end. Known end) piece.end)
    → IsJoinedWith log piece (with_thread log piece.thread new)
thread_joined log old new piece had entries end = record {
  key = refl;
  entries = λ thread place. elim (cases_eq thread piece.thread) [
    | inl is ↦
        let now : slice_get (set log.threads piece.thread new) thread ≡ Some new = ap (λ (t : ℕ). slice_get (set log.threads piece.thread new) t) is ∙ get_set_same log.threads piece.thread old new had in
        let was : slice_get log.threads thread ≡ Some old = ap (λ (t : ℕ). slice_get log.threads t) is ∙ had in
        rw (now, was, same thread piece.thread is) (entries place)
    | inr ne ↦ rw (get_set_other log.threads piece.thread thread new ne, other thread piece.thread ne) (sym (nothing_joined entry_eq _))
  ];
  ends = λ thread. elim (cases_eq thread piece.thread) [
    | inl is ↦
        let now : slice_get (set log.threads piece.thread new) thread ≡ Some new = ap (λ (t : ℕ). slice_get (set log.threads piece.thread new) t) is ∙ get_set_same log.threads piece.thread old new had in
        let was : slice_get log.threads thread ≡ Some old = ap (λ (t : ℕ). slice_get log.threads t) is ∙ had in
        rw (now, was, same thread piece.thread is) end
    | inr ne ↦ rw (get_set_other log.threads piece.thread thread new ne, other thread piece.thread ne) (sym (nothing_joined end_eq _))
  ];
}

take_min : {X : Type 0} (j : ℕ) (xs : List X) → take (min j (length xs)) xs ≡ take j xs
take_min j xs = elim (cases_lt j (length xs)) [
  | inl short ↦ let e : min j (length xs) ≡ j = omega arith in ap (λ (n : ℕ). take n xs) e
  | inr long ↦ let e : min j (length xs) ≡ length xs = omega arith in ap (λ (n : ℕ). take n xs) e ∙ take-length xs ∙ sym (take_all j xs long)
]

-- joining the first of a piece's entries joins the first of its items
pub thread_left : (log : Log) (old new : ThreadLog) (piece : PieceValue) (j : ℕ) → slice_get log.threads piece.thread ≡ Some old
    → EntriesJoined old.entries piece.first (take j piece.entries) new.entries → new.end ≡ old.end
    → (count : ℕ) × IsJoinedWith log (first_items count piece) (with_thread log piece.thread new)
thread_left log old new piece j had entries end =
    let count = min j (length piece.entries) in
    let few : nat_lt (length piece.entries) count ≡ false = not_more (length piece.entries) count (omega arith) in (
      count,
      thread_joined log old new (first_items count piece) had
          (subst (λ (l : List Entry). EntriesJoined old.entries piece.first l new.entries) (sym (take_min j piece.entries)) entries)
          (rw few (end ∙ sym (nothing_joined end_eq old.end))),
    )
  where
    not_more : (n m : ℕ) → m ≤ n → nat_lt n m ≡ false
    not_more n m le = grind arith

some_entry : (x y : Entry) → (let a : Option Entry = Some x in let b : Option Entry = Some y in a ≡ b) → x ≡ y
some_entry x y e = cc

hit : (x y : ℕ) → x ≡ y → is_at (nat_cmp x) y ≡ true
hit x y h = grind arith

miss : (x y : ℕ) → (x ≡ y → ⊥) → is_at (nat_cmp x) y ≡ false
miss x y h = grind arith

-- what stands at a place of a piece's entries is what the piece claims there
placed_agreed : (first place : ℕ) (es : List Entry) → IsAgreed (λ e. (first ≤ place) × (slice_get es (place - first) ≡ Some e)) (value_at nat_cmp (placed first es) place)
placed_agreed first place [] = λ x c. let h : slice_get {X = Entry} [] (place - first) ≡ Some x = c.1 in absurd cc
placed_agreed first place (e ∷ es) = elim (cases_eq place first) [
  | inl is ↦
      let here : is_at (nat_cmp place) first ≡ true = hit place first is in
      let at : place - first ≡ 0 = omega arith in
      rw here ((omega arith, rw at refl), λ y c. let g : slice_get (e ∷ es) 0 ≡ Some y = subst (λ (i : ℕ). slice_get (e ∷ es) i ≡ Some y) at c.1 in sym (some_entry e y g))
  | inr ne ↦
      let there : is_at (nat_cmp place) first ≡ false = miss place first ne in
      rw there (agreed_like (λ y. (suc first ≤ place) × (slice_get es (place - suc first) ≡ Some y)) (λ y. (first ≤ place) × (slice_get (e ∷ es) (place - first) ≡ Some y))
      (λ y c. let past : suc first ≤ place = c.0 in let at : place - first ≡ suc (place - suc first) = omega arith in (omega arith, rw at c.1))
      (λ y c. let past : first ≤ place = c.0 in let at : place - first ≡ suc (place - suc first) = omega arith in (omega arith, subst (λ (i : ℕ). slice_get (e ∷ es) i ≡ Some y) at c.1))
      _ (placed_agreed (suc first) place es))
]

-- the items of a piece are what the set of that piece claims
entry_agreed : (piece : PieceValue) (thread place : ℕ) → IsAgreed (λ e. ClaimsEntry piece thread place e) (piece_entry piece thread place)
entry_agreed piece thread place = elim (cases_eq thread piece.thread) [
  | inl is ↦ rw (same thread piece.thread is)
      (agreed_like _ (λ e. ClaimsEntry piece thread place e) (λ e c. (is, c.0, c.1)) (λ e c. (c.1, c.2)) _ (placed_agreed piece.first place piece.entries))
  | inr ne ↦ rw (other thread piece.thread ne) (λ e c. ne c.0)
]

end_agreed : (piece : PieceValue) (thread : ℕ) → IsAgreed (λ e. ClaimsEnd piece thread e) (piece_end piece thread)
end_agreed piece thread = elim (cases_eq thread piece.thread) [
  | inl is ↦ rw (same thread piece.thread is) (at is piece.end refl)
  | inr ne ↦ rw (other thread piece.thread ne) (λ e c. ne c.0)
]
  where
    at : thread ≡ piece.thread → (o : Option End) → piece.end ≡ o → IsAgreed (λ e. ClaimsEnd piece thread e) (option_map (λ end. Known end) o)
    at is None h = λ e c. absurd (let g : None ≡ Some e = sym h ∙ c.1 in cc)
    at is (Some x) h = ((is, h), λ e c. let g : Some e ≡ Some x = sym c.1 ∙ h in cc)

-- one more piece of the set, joined
pub log_of_more : (pieces : List PieceValue) (piece : PieceValue) (old new : Log) → IsLogOf (Among pieces) old → IsJoinedWith old piece new → IsLogOf (Among (piece ∷ pieces)) new
log_of_more pieces piece old new log joined = record {
  entries = λ thread place.
      let both = agreed_joined entry_eq entry_decides (λ e. (p : PieceValue) × Among pieces p × ClaimsEntry p thread place e) (λ e. ClaimsEntry piece thread place e) (entry_at old thread place) (piece_entry piece thread place) (log.entries thread place) (entry_agreed piece thread place) in
      rw (joined.entries thread place)
      (agreed_like (λ e. ((p : PieceValue) × Among pieces p × ClaimsEntry p thread place e) ⊎ ClaimsEntry piece thread place e) (λ e. (p : PieceValue) × Among (piece ∷ pieces) p × ClaimsEntry p thread place e)
      (λ e c. elim c [ inl k ↦ (k.0, inr k.1, k.2) | inr k ↦ (piece, inl refl, k) ])
      (λ e c. elim c.1 [ inl k ↦ inr (subst (λ (p : PieceValue). ClaimsEntry p thread place e) k c.2) | inr k ↦ inl (c.0, k, c.2) ])
      _ both);
  ends = λ thread.
      let both = agreed_joined end_eq end_decides (λ e. (p : PieceValue) × Among pieces p × ClaimsEnd p thread e) (λ e. ClaimsEnd piece thread e) (end_at old thread) (piece_end piece thread) (log.ends thread) (end_agreed piece thread) in
      rw (joined.ends thread)
      (agreed_like (λ e. ((p : PieceValue) × Among pieces p × ClaimsEnd p thread e) ⊎ ClaimsEnd piece thread e) (λ e. (p : PieceValue) × Among (piece ∷ pieces) p × ClaimsEnd p thread e)
      (λ e c. elim c [ inl k ↦ (k.0, inr k.1, k.2) | inr k ↦ (piece, inl refl, k) ])
      (λ e c. elim c.1 [ inl k ↦ inr (subst (λ (p : PieceValue). ClaimsEnd p thread e) k c.2) | inr k ↦ inl (c.0, k, c.2) ])
      _ both);
}
