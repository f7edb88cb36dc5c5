-- Packed entries, and what is read of them.
use Rattle.std.proofs.Common.{◌≡◌, ℕ, zero, suc, ◌+◌, ◌-◌, ◌*◌, ◌<◌, ◌≤◌, List, [], ◌∷◌, ◌++◌, length, take, drop, min, length-drop, inl, inr, Some, None, refl, sym, ap, ◌∙◌, subst, arith, append_assoc, length-append, add-one}
use Rattle.std.specs.List.{All, flat_map}
use Rattle.std.proofs.Math.Seq.{take-append_seam}
use Rattle.std.proofs.lemmas.Bool.{cases_lt}
use Rattle.std.proofs.lemmas.List.{append-nil, take_all, drop_all}
use Rattle.std.proofs.lemmas.Grind.{flat_map-append}
use Rattle.std.proofs.lemmas.List.Elements.{All-cons, All-nil, All-append, All-drop, All-head, All-tail}
use Rattle.rw_objects.specs.declared.entry.Entry.{Entry}
use Rattle.log_pieces.specs.Packed.{behind_read}
use Rattle.log_pieces.specs.Reading.{read_entry}
use Rattle.log_pieces.specs.Spelling.{entry_bytes}
use Rattle.log_pieces.specs.Widths.{FitsEntry}
use Rattle.log_pieces.specs.Codec.{times_codec}
use Rattle.log_pieces.specs.Fields.{entry_codec}
use Rattle.log_pieces.specs.EntriesIn.{those_read, entries_in, ArePacked}

spelled_read : (es : List Entry) → All FitsEntry es → entries_in (length es) (flat_map entry_bytes es) ≡ es
spelled_read es fit =
    ap (λ bytes. entries_in (length es) bytes) (sym (append-nil (flat_map entry_bytes es)))
    ∙ ap those_read ((times_codec entry_codec (length es)).again es [] (fit, refl))

-- bytes that spell entries are read as these
pub record Spell (count : ℕ) (bytes : List ℕ) (es : List Entry) : Type 0 where
  pub read : entries_in count bytes ≡ es
  pub packed : ArePacked count bytes

pub spell : (count : ℕ) (bytes : List ℕ) (es : List Entry) → count ≡ length es → bytes ≡ flat_map entry_bytes es → All FitsEntry es → Spell count bytes es
spell count bytes es many spelled fit =
    let is : entries_in count bytes ≡ es = ap (λ n. entries_in n bytes) many ∙ ap (entries_in (length es)) spelled ∙ spelled_read es fit in
    record {
      read = is;
      packed = record {
        spelled = spelled ∙ ap (flat_map entry_bytes) (sym is);
        many = ap length is ∙ sym many;
        fits = subst (All FitsEntry) (sym is) fit;
      };
    }

pub none_spelled : Spell 0 [] []
none_spelled = spell 0 [] [] refl refl (All-nil FitsEntry)

pub pushed : (count : ℕ) (bytes news : List ℕ) (e : Entry) → ArePacked count bytes → news ≡ bytes ++ entry_bytes e → FitsEntry e → Spell (count + 1) news (entries_in count bytes ++ e ∷ [])
pushed count bytes news e packed put fit =
    let es = entries_in count bytes in
    spell (count + 1) news (es ++ e ∷ [])
    (let n = length-append es (e ∷ []) in let m = packed.many in omega (arith, n, m))
    (put ∙ ap (λ l. l ++ entry_bytes e) packed.spelled ∙ ap (λ l. flat_map entry_bytes es ++ l) (sym (append-nil (entry_bytes e))) ∙ sym (flat_map-append entry_bytes es (e ∷ [])))
    (All-append FitsEntry es (e ∷ []) packed.fits (All-cons FitsEntry e [] fit (All-nil FitsEntry)))

-- an entry has at least two bytes
long : (es : List Entry) → 2 * length es ≤ length (flat_map entry_bytes es)
long [] = omega arith
long (e ∷ es) =
    let more = long es in
    let all = length-append (entry_bytes e) (flat_map entry_bytes es) in
    omega (arith, more, all)

pub few_entries : (count : ℕ) (bytes : List ℕ) → ArePacked count bytes → 2 * count ≤ length bytes
few_entries count bytes packed = let all = long (entries_in count bytes) in let n = packed.many in let m = ap length packed.spelled in omega (arith, all, n, m)

-- the bytes of entries in two parts
pub split_bytes : (es : List Entry) (n : ℕ) → flat_map entry_bytes es ≡ flat_map entry_bytes (take n es) ++ flat_map entry_bytes (drop n es)
split_bytes [] zero = refl
split_bytes [] (suc n) = refl
split_bytes (e ∷ es) zero = refl
split_bytes (e ∷ es) (suc n) = ap (λ l. entry_bytes e ++ l) (split_bytes es n) ∙ sym (append_assoc (entry_bytes e) (flat_map entry_bytes (take n es)) (flat_map entry_bytes (drop n es)))

pub front_bytes : (count n : ℕ) (bytes rest : List ℕ) → ArePacked count bytes → rest ≡ flat_map entry_bytes (drop n (entries_in count bytes)) → bytes ≡ flat_map entry_bytes (take n (entries_in count bytes)) ++ rest
front_bytes count n bytes rest packed is =
    let es = entries_in count bytes in
    packed.spelled ∙ split_bytes es n ∙ ap (λ l. flat_map entry_bytes (take n es) ++ l) (sym is)

-- the entry that is read behind n others, and what is left then
record NextEntry (es : List Entry) (n : ℕ) (rest : List ℕ) : Type 0 where
  entry : Entry
  read : read_entry rest ≡ Some (entry, flat_map entry_bytes (drop (suc n) es))
  more : take (suc n) es ≡ take n es ++ entry ∷ []

next_entry : (es : List Entry) (n : ℕ) (rest : List ℕ) → All FitsEntry es → n < length es → rest ≡ flat_map entry_bytes (drop n es) → NextEntry es n rest
next_entry [] n rest fit l is = absurd (omega arith)
next_entry (e ∷ es) zero rest fit l is = record { entry = e; read = ap read_entry is ∙ entry_codec.again e (flat_map entry_bytes es) (All-head FitsEntry e es fit); more = refl }
next_entry (e ∷ es) (suc n) rest fit l is =
    let h = next_entry es n rest (All-tail FitsEntry e es fit) (omega (arith, l)) is in
    record { entry = h.entry; read = h.read; more = ap (λ x. e ∷ x) h.more }

some_pair : (p q : Entry × List ℕ) → Some p ≡ Some q → p ≡ q
some_pair p q e = cc

no_pair : (p : Entry × List ℕ) → None ≡ Some p → ⊥
no_pair p e = cc

abbrev Both : Entry × List ℕ → Entry × List ℕ → Type 0
Both p q = (p.0 ≡ q.0) × (p.1 ≡ q.1)

same_read : (p q : Entry × List ℕ) → Some p ≡ Some q → Both p q
same_read p q e = let pair = some_pair p q e in (ap (λ (x : Entry × List ℕ). x.0) pair, ap (λ (x : Entry × List ℕ). x.1) pair)

module _ (count n : ℕ) (bytes rest : List ℕ) (packed : ArePacked count bytes) (l : n < count) (is : rest ≡ flat_map entry_bytes (drop n (entries_in count bytes))) where
  next_of : NextEntry (entries_in count bytes) n rest
  next_of = next_entry (entries_in count bytes) n rest packed.fits (let m = packed.many in omega (arith, l, m)) is

  abbrev pair : Entry × List ℕ
  pair = (next_of.entry, flat_map entry_bytes (drop (suc n) (entries_in count bytes)))

  pub is_read : None ≡ read_entry rest → ⊥
  is_read none = no_pair pair (none ∙ next_of.read)

  pub read_behind : (entry : Entry) (behind : List ℕ) → Some (entry, behind) ≡ read_entry rest → behind ≡ flat_map entry_bytes (drop (n + 1) (entries_in count bytes))
  read_behind entry behind e = rw add-one (same_read (entry, behind) pair (e ∙ next_of.read)).1

  pub one_more_read : (entry : Entry) (behind : List ℕ) (old news : List Entry) → Some (entry, behind) ≡ read_entry rest → old ≡ take n (entries_in count bytes) → news ≡ old ++ entry ∷ [] → news ≡ take (n + 1) (entries_in count bytes)
  one_more_read entry behind old news e so_far put =
      rw add-one (put ∙ ap (λ l. l ++ entry ∷ []) so_far ∙ ap (λ x. take n (entries_in count bytes) ++ x ∷ []) (same_read (entry, behind) pair (e ∙ next_of.read)).0 ∙ sym next_of.more)

  -- the entry is there to be passed
  pub is_passed : None ≡ behind_read (read_entry rest) → ⊥
  is_passed none = let some = ap behind_read next_of.read in let e : None ≡ Some pair.1 = none ∙ some in cc

  pub passed_behind : (behind : List ℕ) → Some behind ≡ behind_read (read_entry rest) → behind ≡ flat_map entry_bytes (drop (n + 1) (entries_in count bytes))
  passed_behind behind e = rw add-one (let some = ap behind_read next_of.read in let f : Some behind ≡ Some pair.1 = e ∙ some in cc)

-- what stands behind is a part of the bytes
pub behind_within : (count n : ℕ) (bytes rest : List ℕ) → ArePacked count bytes → rest ≡ flat_map entry_bytes (drop n (entries_in count bytes)) → length rest ≤ length bytes
behind_within count n bytes rest packed is =
    let front = flat_map entry_bytes (take n (entries_in count bytes)) in
    let all = ap length (front_bytes count n bytes rest packed is) in
    let parts = length-append front rest in
    omega (arith, all, parts)

-- at the end of a list nothing more is taken or dropped
take_least : (es : List Entry) (most n : ℕ) → n ≡ min most (length es) → take n es ≡ take most es
take_least es most n least =
    elim (cases_lt most (length es)) [
      | inl l ↦ ap (λ k. take k es) (let same : n ≡ most = omega (arith, least, l) in same)
      | inr l ↦ take_all n es (omega (arith, least, l)) ∙ sym (take_all most es l)
    ]

drop_least : (es : List Entry) (most n : ℕ) → n ≡ min most (length es) → drop n es ≡ drop most es
drop_least es most n least =
    elim (cases_lt most (length es)) [
      | inl l ↦ ap (λ k. drop k es) (let same : n ≡ most = omega (arith, least, l) in same)
      | inr l ↦ drop_all n es (omega (arith, least, l)) ∙ sym (drop_all most es l)
    ]

-- what is left behind as many entries as there are, but no more than `most`
pub left_behind : (count most n : ℕ) (bytes rest : List ℕ) → ArePacked count bytes → n ≡ min most count → rest ≡ flat_map entry_bytes (drop n (entries_in count bytes)) → Spell (count - n) rest (drop most (entries_in count bytes))
left_behind count most n bytes rest packed least is =
    let es = entries_in count bytes in
    let same = drop_least es most n (least ∙ ap (min most) (sym packed.many)) in
    spell (count - n) rest (drop most es)
    (let m = packed.many in let k = length-drop most es in omega (arith, least, m, k))
    (is ∙ ap (flat_map entry_bytes) same) (All-drop FitsEntry most es packed.fits)

pub taken : (count most n : ℕ) (bytes : List ℕ) → ArePacked count bytes → n ≡ min most count → take n (entries_in count bytes) ≡ take most (entries_in count bytes)
taken count most n bytes packed least = take_least (entries_in count bytes) most n (least ∙ ap (min most) (sym packed.many))

-- the bytes in front of those that are left are those of the entries that were passed
pub passed_bytes : (count most n : ℕ) (bytes rest : List ℕ) → ArePacked count bytes → n ≡ min most count → rest ≡ flat_map entry_bytes (drop n (entries_in count bytes))
    → take (length bytes - length rest) bytes ≡ flat_map entry_bytes (take most (entries_in count bytes))
passed_bytes count most n bytes rest packed least is =
    let front = flat_map entry_bytes (take n (entries_in count bytes)) in
    let whole = front_bytes count n bytes rest packed is in
    let all = ap length whole in
    let parts = length-append front rest in
    let long : length bytes - length rest ≡ length front = omega (arith, all, parts) in
    ap (λ k. take k bytes) long ∙ ap (take (length front)) whole ∙ take-append_seam front rest ∙ ap (flat_map entry_bytes) (taken count most n bytes packed least)
