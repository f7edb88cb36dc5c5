-- A log joined with another, thread by thread.
use Rattle.std.proofs.Common.{◌≡◌, ℕ, zero, suc, ◌<◌, ◌≤◌, Bool, true, false, List, [], ◌∷◌, ◌++◌, length, take, Option, Some, None, refl, sym, ap, ◌∙◌, arith, inl, inr, ◌⊎◌}
use Rattle.std.specs.Prelude.{nat_lt, slice_get, ◌==◌, if◌then◌else◌}
use Rattle.std.proofs.Math.ListN.{set}
use Rattle.std.specs.Ordering.{nat_cmp}
use Rattle.std.specs.BTreeMap.{is_at}
use Rattle.std.proofs.lemmas.Bool.{cases_eq, cases_lt, eq-eqb}
use Rattle.rw_objects.specs.declared.entry.Entry.{Entry}
use Rattle.rw_objects.specs.Decides.{entry_decides}
use Rattle.log_pieces.specs.declared.end.End.{End}
use Rattle.log_pieces.specs.Decides.{end_decides}
use Rattle.log_pieces.specs.Piece.{PieceValue}
use Rattle.log_pieces.specs.declared.flat.Flat.{Flat}
use Rattle.log_pieces.specs.Flat.{flat_joined}
use Rattle.log_pieces.specs.Keyed.{value_at, option_joined}
use Rattle.log_pieces.specs.Pages.{AreJoined}
use Rattle.log_pieces.proofs.AgreedLaws.{agreed_like, agreed_joined}
use Rattle.replica.specs.declared.thread_log.ThreadLog.{ThreadLog}
use Rattle.replica.specs.declared.log.Log.{Log}
use Rattle.replica.specs.Log.{key_of, entry_at, end_at}
use Rattle.replica.specs.Items.{entry_eq, end_eq}
use Rattle.replica.specs.LogOf.{ClaimsEntry, ClaimsEnd, IsLogOf, Among}
use Rattle.replica.specs.Merged.{IsMerged, first_of, first_entry, IsMergedInPart, IsThreadMerged, IsEndMerged, AreEntriesMerged, AreEndsMerged}
use Rattle.replica.proofs.LogLemmas.{get_set_same, get_set_other, nothing_joined, with_thread}
use Rattle.replica.proofs.LawLemmas.{IsPart, joined_again}

is_equal : (x y : ℕ) → x ≡ y → (x == y) ≡ true
is_equal x y h = eq-eqb x y h

is_apart : (x y : ℕ) → (x ≡ y → ⊥) → (x == y) ≡ false
is_apart x y ne = grind arith

is_less : (x y : ℕ) → x < y → nat_lt x y ≡ true
is_less x y lt = grind arith

is_past : (x y : ℕ) → y ≤ x → nat_lt x y ≡ false
is_past x y le = grind arith

get_past : {X : Type 0} (xs : List X) (i : ℕ) → length xs ≤ i → slice_get xs i ≡ None
get_past [] i le = refl
get_past (x ∷ xs) zero le = absurd (omega (arith, le))
get_past (x ∷ xs) (suc i) le = get_past xs i (omega (arith, le))

-- ---- one thread
pub thread_merged : (log : Log) (old new : ThreadLog) (owner : ℕ) (entries : List (ℕ × Flat Entry)) → slice_get log.threads owner ≡ Some old → AreJoined entry_eq old.entries entries new.entries → new.end ≡ old.end
    → IsThreadMerged log owner entries (with_thread log owner new)
thread_merged log old new owner entries had joined end = record {
  key = refl;
  entries = λ thread place. elim (cases_eq thread owner) [
    | inl is ↦
        let now : slice_get (set log.threads owner new) thread ≡ Some new = ap (λ (t : ℕ). slice_get (set log.threads owner new) t) is ∙ get_set_same log.threads owner old new had in
        let was : slice_get log.threads thread ≡ Some old = ap (λ (t : ℕ). slice_get log.threads t) is ∙ had in
        rw (now, was, is_equal thread owner is) (joined place)
    | inr ne ↦ rw (get_set_other log.threads owner thread new ne, is_apart thread owner ne) (sym (nothing_joined entry_eq _))
  ];
  ends = λ thread. elim (cases_eq thread owner) [
    | inl is ↦
        let now : slice_get (set log.threads owner new) thread ≡ Some new = ap (λ (t : ℕ). slice_get (set log.threads owner new) t) is ∙ get_set_same log.threads owner old new had in
        let was : slice_get log.threads thread ≡ Some old = ap (λ (t : ℕ). slice_get log.threads t) is ∙ had in
        rw (now, was) end
    | inr ne ↦ rw (get_set_other log.threads owner thread new ne) refl
  ];
}

pub end_merged : (log : Log) (old new : ThreadLog) (owner : ℕ) (end : Option (Flat End)) → slice_get log.threads owner ≡ Some old → new.entries ≡ old.entries → new.end ≡ option_joined (flat_joined end_eq) old.end end
    → IsEndMerged log owner end (with_thread log owner new)
end_merged log old new owner end had entries joined = record {
  key = refl;
  entries = λ thread place. elim (cases_eq thread owner) [
    | inl is ↦
        let now : slice_get (set log.threads owner new) thread ≡ Some new = ap (λ (t : ℕ). slice_get (set log.threads owner new) t) is ∙ get_set_same log.threads owner old new had in
        let was : slice_get log.threads thread ≡ Some old = ap (λ (t : ℕ). slice_get log.threads t) is ∙ had in
        rw (now, was) (ap (λ (l : List (ℕ × Flat Entry)). value_at nat_cmp l place) entries)
    | inr ne ↦ rw (get_set_other log.threads owner thread new ne) refl
  ];
  ends = λ thread. elim (cases_eq thread owner) [
    | inl is ↦
        let now : slice_get (set log.threads owner new) thread ≡ Some new = ap (λ (t : ℕ). slice_get (set log.threads owner new) t) is ∙ get_set_same log.threads owner old new had in
        let was : slice_get log.threads thread ≡ Some old = ap (λ (t : ℕ). slice_get log.threads t) is ∙ had in
        rw (now, was, is_equal thread owner is) joined
    | inr ne ↦ rw (get_set_other log.threads owner thread new ne, is_apart thread owner ne) (sym (nothing_joined end_eq _))
  ];
}

-- ---- one more thread of those before
module _ {T : Type 0} (eq : T → T → Bool) (old cur new other : ℕ → Option (Flat T)) (i : ℕ) (x : Option (Flat T))
    (so_far : (t : ℕ) → cur t ≡ option_joined (flat_joined eq) (old t) (if nat_lt t i then other t else None))
    (one : (t : ℕ) → new t ≡ option_joined (flat_joined eq) (cur t) (if t == i then x else None)) where
  at_one : (t : ℕ) → t ≡ i → new t ≡ option_joined (flat_joined eq) (old t) x
  at_one t is =
      let mine : (if t == i then x else None) ≡ x = rw (is_equal t i is) refl in
      let none : (if nat_lt t i then other t else None) ≡ None = rw (is_past t i (omega arith)) refl in
      one t ∙ ap (λ (o : Option (Flat T)). option_joined (flat_joined eq) (cur t) o) mine
      ∙ ap (λ (o : Option (Flat T)). option_joined (flat_joined eq) o x) (so_far t ∙ ap (λ (o : Option (Flat T)). option_joined (flat_joined eq) (old t) o) none ∙ nothing_joined eq (old t))

  at_other : (t : ℕ) → (t ≡ i → ⊥) → new t ≡ option_joined (flat_joined eq) (old t) (if nat_lt t i then other t else None)
  at_other t ne =
      let none : (if t == i then x else None) ≡ None = rw (is_apart t i ne) refl in
      one t ∙ ap (λ (o : Option (Flat T)). option_joined (flat_joined eq) (cur t) o) none ∙ nothing_joined eq (cur t) ∙ so_far t

  pub step_all : x ≡ other i → (t : ℕ) → new t ≡ option_joined (flat_joined eq) (old t) (if nat_lt t (suc i) then other t else None)
  step_all all t = elim (cases_eq t i) [
    | inl is ↦
        let here : x ≡ (if nat_lt t (suc i) then other t else None) = rw (is_less t (suc i) (omega arith), is) all in
        at_one t is ∙ ap (λ (o : Option (Flat T)). option_joined (flat_joined eq) (old t) o) here
    | inr ne ↦ at_other t ne ∙ ap (λ (o : Option (Flat T)). option_joined (flat_joined eq) (old t) o) (same t ne)
  ]
    where
      same : (t : ℕ) → (t ≡ i → ⊥) → (if nat_lt t i then other t else None) ≡ (if nat_lt t (suc i) then other t else None)
      same t ne = elim (cases_lt t i) [
        | inl lt ↦ rw (is_less t i lt, is_less t (suc i) (omega arith)) refl
        | inr ge ↦ elim (cases_lt t (suc i)) [
          | inl lt ↦ absurd (ne (omega arith))
          | inr past ↦ rw (is_past t i ge, is_past t (suc i) past) refl
        ]
      ]

  pub step_part : (first : ℕ → Option (Flat T)) → x ≡ first i → (t : ℕ) → new t ≡ option_joined (flat_joined eq) (old t) (if nat_lt t i then other t else if t == i then first t else None)
  step_part first all t = elim (cases_eq t i) [
    | inl is ↦
        let here : x ≡ (if nat_lt t i then other t else if t == i then first t else None) = rw (is_past t i (omega arith), is_equal t i is, is) all in
        at_one t is ∙ ap (λ (o : Option (Flat T)). option_joined (flat_joined eq) (old t) o) here
    | inr ne ↦
        let here : (if nat_lt t i then other t else None) ≡ (if nat_lt t i then other t else if t == i then first t else None) = rw (is_apart t i ne) refl in
        at_other t ne ∙ ap (λ (o : Option (Flat T)). option_joined (flat_joined eq) (old t) o) here
  ]

module _ {T : Type 0} (eq : T → T → Bool) (old cur other : ℕ → Option (Flat T)) where
  pub step_none : ((t : ℕ) → cur t ≡ old t) → (t : ℕ) → cur t ≡ option_joined (flat_joined eq) (old t) (if nat_lt t 0 then other t else None)
  step_none same t =
      let none : (if nat_lt t 0 then other t else None) ≡ None = rw (is_past t 0 (omega arith)) refl in
      same t ∙ sym (ap (λ (o : Option (Flat T)). option_joined (flat_joined eq) (old t) o) none ∙ nothing_joined eq (old t))

  pub step_end : (i : ℕ) → ((t : ℕ) → i ≤ t → other t ≡ None) → ((t : ℕ) → cur t ≡ option_joined (flat_joined eq) (old t) (if nat_lt t i then other t else None)) → (t : ℕ) → cur t ≡ option_joined (flat_joined eq) (old t) (other t)
  step_end i past so_far t = so_far t ∙ ap (λ (o : Option (Flat T)). option_joined (flat_joined eq) (old t) o) (elim (cases_lt t i) [
    | inl lt ↦ rw (is_less t i lt) refl
    | inr ge ↦ rw (is_past t i ge) (sym (past t ge))
  ])

-- ---- all threads
pub record EntriesSoFar (old other : Log) (count : ℕ) (cur : Log) : Type 0 where
  pub key : key_of cur ≡ key_of old
  pub entries : (place thread : ℕ) → entry_at cur thread place ≡ option_joined (flat_joined entry_eq) (entry_at old thread place) (if nat_lt thread count then entry_at other thread place else None)
  pub ends : (thread : ℕ) → end_at cur thread ≡ end_at old thread

pub record EndsSoFar (old other : Log) (count : ℕ) (cur : Log) : Type 0 where
  pub key : key_of cur ≡ key_of old
  pub entries : (thread place : ℕ) → entry_at cur thread place ≡ entry_at old thread place
  pub ends : (thread : ℕ) → end_at cur thread ≡ option_joined (flat_joined end_eq) (end_at old thread) (if nat_lt thread count then end_at other thread else None)

theirs_at : (other : Log) (i : ℕ) (theirs : ThreadLog) → slice_get other.threads i ≡ Some theirs → (place : ℕ) → value_at nat_cmp theirs.entries place ≡ entry_at other i place
theirs_at other i theirs is place = rw is refl

first_at : (other : Log) (i count : ℕ) (theirs : ThreadLog) → slice_get other.threads i ≡ Some theirs → (place : ℕ) → value_at nat_cmp (take count theirs.entries) place ≡ first_of count (slice_get other.threads i) place
first_at other i count theirs is place = rw is refl

pub entries_next : (old other cur new : Log) (i : ℕ) (theirs : ThreadLog) → slice_get other.threads i ≡ Some theirs → EntriesSoFar old other i cur → IsThreadMerged cur i theirs.entries new → EntriesSoFar old other (suc i) new
entries_next old other cur new i theirs is so_far one = record {
  key = one.key ∙ so_far.key;
  entries = λ place. step_all entry_eq (λ t. entry_at old t place) (λ t. entry_at cur t place) (λ t. entry_at new t place) (λ t. entry_at other t place) i (value_at nat_cmp theirs.entries place) (so_far.entries place) (λ t. one.entries t place) (theirs_at other i theirs is place);
  ends = λ thread. one.ends thread ∙ so_far.ends thread;
}

pub entries_left : (old other cur new : Log) (i count : ℕ) (theirs : ThreadLog) → slice_get other.threads i ≡ Some theirs → EntriesSoFar old other i cur → IsThreadMerged cur i (take count theirs.entries) new → IsMergedInPart old other i count new
entries_left old other cur new i count theirs is so_far one = record {
  key = one.key ∙ so_far.key;
  entries = λ thread place. step_part entry_eq (λ t. entry_at old t place) (λ t. entry_at cur t place) (λ t. entry_at new t place) (λ t. entry_at other t place) i (value_at nat_cmp (take count theirs.entries) place) (so_far.entries place) (λ t. one.entries t place)
      (λ t. first_of count (slice_get other.threads t) place) (first_at other i count theirs is place) thread;
  ends = λ thread. one.ends thread ∙ so_far.ends thread;
}

no_entry : (other : Log) (i : ℕ) → length other.threads ≤ i → (place t : ℕ) → i ≤ t → entry_at other t place ≡ None
no_entry other i all place t le = let none = get_past other.threads t (omega arith) in rw none refl

no_end : (other : Log) (i : ℕ) → length other.threads ≤ i → (t : ℕ) → i ≤ t → end_at other t ≡ None
no_end other i all t le = let none = get_past other.threads t (omega arith) in rw none refl

pub entries_end : (old other cur : Log) (i : ℕ) → length other.threads ≤ i → EntriesSoFar old other i cur → AreEntriesMerged old other cur
entries_end old other cur i all so_far = record {
  key = so_far.key;
  entries = λ thread place. step_end entry_eq (λ t. entry_at old t place) (λ t. entry_at cur t place) (λ t. entry_at other t place) i (no_entry other i all place) (so_far.entries place) thread;
  ends = so_far.ends;
}

their_end : (other : Log) (i : ℕ) (theirs : ThreadLog) → slice_get other.threads i ≡ Some theirs → theirs.end ≡ end_at other i
their_end other i theirs is = rw is refl

pub ends_next : (old other cur new : Log) (i : ℕ) (theirs : ThreadLog) → slice_get other.threads i ≡ Some theirs → EndsSoFar old other i cur → IsEndMerged cur i theirs.end new → EndsSoFar old other (suc i) new
ends_next old other cur new i theirs is so_far one = record {
  key = one.key ∙ so_far.key;
  entries = λ thread place. one.entries thread place ∙ so_far.entries thread place;
  ends = step_all end_eq (end_at old) (end_at cur) (end_at new) (end_at other) i theirs.end so_far.ends one.ends (their_end other i theirs is);
}

pub ends_end : (old other cur : Log) (i : ℕ) → length other.threads ≤ i → EndsSoFar old other i cur → AreEndsMerged old other cur
ends_end old other cur i all so_far = record { key = so_far.key; entries = so_far.entries; ends = step_end end_eq (end_at old) (end_at cur) (end_at other) i (no_end other i all) so_far.ends }

-- the entries, and then the ends
pub both_merged : (old other mid new : Log) → AreEntriesMerged old other mid → AreEndsMerged mid other new → IsMerged old other new
both_merged old other mid new entries ends = record {
  key = ends.key ∙ entries.key;
  entries = λ thread place. ends.entries thread place ∙ entries.entries thread place;
  ends = λ thread. ends.ends thread ∙ ap (λ (o : Option (Flat End)). option_joined (flat_joined end_eq) o (end_at other thread)) (entries.ends thread);
}

-- ---- merging again
taken_part : (count q : ℕ) (es : List (ℕ × Flat Entry)) → IsPart (value_at nat_cmp (take count es) q) (value_at nat_cmp es q)
taken_part zero q es = inl refl
taken_part (suc count) q [] = inl refl
taken_part (suc count) q (e ∷ es) = at (is_at (nat_cmp q) e.0) (taken_part count q es) where
  at : (t : Bool) → IsPart (value_at nat_cmp (take count es) q) (value_at nat_cmp es q) → IsPart (if t then Some e.1 else value_at nat_cmp (take count es) q) (if t then Some e.1 else value_at nat_cmp es q)
  at true h = inr refl
  at false h = h

first_part : (owner count : ℕ) (log : Log) (thread place : ℕ) → IsPart (first_entry owner count log thread place) (entry_at log thread place)
first_part owner count log thread place = at (nat_lt thread owner) (thread == owner) (slice_get log.threads thread) refl where
  of_thread : (o : Option ThreadLog) → slice_get log.threads thread ≡ o → IsPart (first_of count o place) (entry_at log thread place)
  of_thread None is = inl refl
  of_thread (Some t) is = rw is (taken_part count place t.entries)

  at : (less mine : Bool) (o : Option ThreadLog) → slice_get log.threads thread ≡ o → IsPart (if less then entry_at log thread place else if mine then first_of count o place else None) (entry_at log thread place)
  at true mine o is = inr refl
  at false true o is = of_thread o is
  at false false o is = inl refl

pub merging_completes : (old other part new : Log) (owner count : ℕ) → IsMergedInPart old other owner count part → IsMerged part other new → IsMerged old other new
merging_completes old other part new owner count first second = record {
  key = second.key ∙ first.key;
  entries = λ thread place. second.entries thread place
      ∙ ap (λ (o : Option (Flat Entry)). option_joined (flat_joined entry_eq) o (entry_at other thread place)) (first.entries thread place)
      ∙ joined_again entry_eq entry_decides (entry_at old thread place) _ (entry_at other thread place) (first_part owner count other thread place);
  ends = λ thread. second.ends thread ∙ ap (λ (o : Option (Flat End)). option_joined (flat_joined end_eq) o (end_at other thread)) (first.ends thread);
}

-- ---- two sets of pieces
among_front : (ps qs : List PieceValue) (piece : PieceValue) → Among ps piece → Among (ps ++ qs) piece
among_front [] qs piece h = absurd h
among_front (p ∷ ps) qs piece h = elim h [ inl e ↦ inl e | inr k ↦ inr (among_front ps qs piece k) ]

among_back : (ps qs : List PieceValue) (piece : PieceValue) → Among qs piece → Among (ps ++ qs) piece
among_back [] qs piece h = h
among_back (p ∷ ps) qs piece h = inr (among_back ps qs piece h)

among_either : (ps qs : List PieceValue) (piece : PieceValue) → Among (ps ++ qs) piece → Among ps piece ⊎ Among qs piece
among_either [] qs piece h = inr h
among_either (p ∷ ps) qs piece h = elim h [ inl e ↦ inl (inl e) | inr k ↦ elim (among_either ps qs piece k) [ inl a ↦ inl (inr a) | inr b ↦ inr b ] ]

either_claims : {X : Type 0} (ps qs : List PieceValue) (claims : PieceValue → X → Type 0) (x : X)
    → ((p : PieceValue) × Among ps p × claims p x) ⊎ ((p : PieceValue) × Among qs p × claims p x) → (p : PieceValue) × Among (ps ++ qs) p × claims p x
either_claims ps qs claims x c = elim c [ inl k ↦ (k.0, among_front ps qs k.0 k.1, k.2) | inr k ↦ (k.0, among_back ps qs k.0 k.1, k.2) ]

claims_either : {X : Type 0} (ps qs : List PieceValue) (claims : PieceValue → X → Type 0) (x : X)
    → ((p : PieceValue) × Among (ps ++ qs) p × claims p x) → ((p : PieceValue) × Among ps p × claims p x) ⊎ ((p : PieceValue) × Among qs p × claims p x)
claims_either ps qs claims x c = elim (among_either ps qs c.0 c.1) [ inl k ↦ inl (c.0, k, c.2) | inr k ↦ inr (c.0, k, c.2) ]

pub log_of_both : (ps qs : List PieceValue) (old other new : Log) → IsLogOf (Among ps) old → IsLogOf (Among qs) other → IsMerged old other new → IsLogOf (Among (ps ++ qs)) new
log_of_both ps qs old other new mine theirs merged = record {
  entries = λ thread place.
      let claims : PieceValue → Entry → Type 0 = λ p e. ClaimsEntry p thread place e in
      let both = agreed_joined entry_eq entry_decides (λ e. (p : PieceValue) × Among ps p × claims p e) (λ e. (p : PieceValue) × Among qs p × claims p e) (entry_at old thread place) (entry_at other thread place) (mine.entries thread place) (theirs.entries thread place) in
      rw (merged.entries thread place)
      (agreed_like (λ e. ((p : PieceValue) × Among ps p × claims p e) ⊎ ((p : PieceValue) × Among qs p × claims p e)) (λ e. (p : PieceValue) × Among (ps ++ qs) p × claims p e)
      (λ e c. either_claims ps qs claims e c) (λ e c. claims_either ps qs claims e c) _ both);
  ends = λ thread.
      let claims : PieceValue → End → Type 0 = λ p e. ClaimsEnd p thread e in
      let both = agreed_joined end_eq end_decides (λ e. (p : PieceValue) × Among ps p × claims p e) (λ e. (p : PieceValue) × Among qs p × claims p e) (end_at old thread) (end_at other thread) (mine.ends thread) (theirs.ends thread) in
      rw (merged.ends thread)
      (agreed_like (λ e. ((p : PieceValue) × Among ps p × claims p e) ⊎ ((p : PieceValue) × Among qs p × claims p e)) (λ e. (p : PieceValue) × Among (ps ++ qs) p × claims p e)
      (λ e c. either_claims ps qs claims e c) (λ e c. claims_either ps qs claims e c) _ both);
}
