-- Rows that are put one behind the other.
use Rattle.std.proofs.Common.{◌≡◌, ℕ, suc, ◌+◌, ◌*◌, ◌<◌, ◌≤◌, Bool, true, false, cond, List, [], ◌∷◌, ◌++◌, length, refl, sym, ap, subst, ◌∙◌, arith, append-nil, append_assoc, length-append, inl, inr}
use Rattle.std.specs.Prelude.{Some, slice_index_or, slice_set, ◌⊎◌, ◌==◌}
use Rattle.std.proofs.lemmas.Bool.{cases_eq, eq-eqb, ne_eqb}
use Rattle.std.proofs.lemmas.List.{get_or-set_same, get_or-set_other}
use Rattle.rw_objects.specs.declared.count.Count.{Count}
use Rattle.std.proofs.Math.Logic.{⊎_elim}
use Rattle.rw_objects.specs.declared.entry.Entry.{Entry}
use Rattle.log_pieces.specs.declared.flat.Flat.TheVariants.{Known}
use Rattle.replica.specs.declared.log.Log.{Log}
use Rattle.replica.specs.Log.{entry_at}
use Rattle.replica.specs.declared.passage.EntryRow.{EntryRow}
use Rattle.replica.specs.declared.passage.Passage.{Passage}
use Rattle.replica.specs.Counted.{count_behind, is_open}
use Rattle.replica.specs.Passage.{Passes, IsPassage, IsStuck, counts_behind, places_behind}
use Rattle.replica.specs.Kept.{counts_in, AreFew, Keeps, IsLonger, IsNextEntry, HasNoNextEntry}
use Rattle.replica.proofs.CountLaws.{open_agree, behind_row, few_below, places_row}

module _ (log : Log) where
  pub passage_append : (b xs ys : List EntryRow) → IsPassage log b xs → IsPassage log (b ++ xs) ys → IsPassage log b (xs ++ ys)
  passage_append b [] ys h k = subst (λ (l : List EntryRow). IsPassage log l ys) (append-nil b) k
  passage_append b (x ∷ xs) ys h k =
      (h.0, passage_append (b ++ x ∷ []) xs ys h.1 (subst (λ (l : List EntryRow). IsPassage log l ys) (sym (append_assoc b (x ∷ []) xs)) k))

  pub longer_self : (p : Passage) → Keeps p → IsLonger log p p
  longer_self p keeps = record { more = []; parts = sym (append-nil p.rows.items); passes = tt; keeps = keeps }

  pub longer_more : (a b c : Passage) → IsLonger log a b → IsLonger log b c → IsLonger log a c
  longer_more a b c h k = record {
    more = h.more ++ k.more;
    parts = k.parts ∙ ap (λ (l : List EntryRow). l ++ k.more) h.parts ∙ append_assoc a.rows.items h.more k.more;
    passes = passage_append a.rows.items h.more k.more h.passes (subst (λ (l : List EntryRow). IsPassage log l k.more) h.parts k.passes);
    keeps = k.keeps;
  }

  pub longer_row : (a b : Passage) (row : EntryRow) → Passes log a.rows.items row → b.rows.items ≡ a.rows.items ++ row ∷ [] → Keeps b → IsLonger log a b
  longer_row a b row passes is keeps = record { more = row ∷ []; parts = is; passes = (passes, tt); keeps = keeps }

  grown : (a b : Passage) → (h : IsLonger log a b) → length b.rows.items ≡ length a.rows.items + length h.more
  grown a b h = ap (λ (l : List EntryRow). length l) h.parts ∙ length-append a.rows.items h.more

  pub grows : (a b : Passage) → IsLonger log a b → length a.rows.items ≤ length b.rows.items
  grows a b h = omega (arith, grown a b h)

  no_rows : (xs : List EntryRow) → length xs ≡ 0 → xs ≡ []
  no_rows [] h = refl
  no_rows (x ∷ xs) h = absurd (let k : suc (length xs) ≡ 0 = h in omega (arith, k))

  -- where the length stayed, nothing was put
  pub same_rows : (a b : Passage) → IsLonger log a b → length b.rows.items ≡ length a.rows.items → b.rows.items ≡ a.rows.items
  same_rows a b h same =
      let none : length h.more ≡ 0 = omega (arith, grown a b h, same) in
      h.parts ∙ ap (λ (l : List EntryRow). a.rows.items ++ l) (no_rows h.more none) ∙ append-nil a.rows.items

  module _ (p : Passage) (thread : ℕ) (keeps : Keeps p) (few : thread < 16) where
    open_same : (row : EntryRow) → is_open row.entry.found (counts_in p.counts) ≡ is_open row.entry.found (counts_behind p.rows.items)
    open_same row = open_agree (counts_in p.counts) (counts_behind p.rows.items) keeps.counts row.entry.found

    -- the next place of a thread, as it is kept
    place_kept : (row : EntryRow) → row.thread ≡ thread → slice_index_or p.places thread 0 ≡ places_behind p.rows.items row.thread
    place_kept row of = keeps.places thread few ∙ ap (λ (t : ℕ). places_behind p.rows.items t) (sym of)

    pub next_passes : (row : EntryRow) → IsNextEntry log p.places thread row → is_open row.entry.found (counts_in p.counts) ≡ true → Passes log p.rows.items row
    next_passes row next opens = record {
      is_known = next.is_known;
      is_next = next.is_next ∙ place_kept row next.of;
      opens = sym (open_same row) ∙ opens;
    }

    next_of : (row : EntryRow) → row.thread ≡ thread → Passes log p.rows.items row → IsNextEntry log p.places thread row
    next_of row of passes = record { of = of; is_known = passes.is_known; is_next = passes.is_next ∙ sym (place_kept row of) }

    pub stuck_none : HasNoNextEntry log p.places thread → IsStuck log p.rows.items thread
    stuck_none none row of low passes = none row low (next_of row of passes)

    pub stuck_shut : (first : EntryRow) → IsNextEntry log p.places thread first → is_open first.entry.found (counts_in p.counts) ≡ false → IsStuck log p.rows.items thread
    stuck_shut first next shut row of low passes =
        let again = next_of row of passes in
        let known : Some (Known first.entry) ≡ Some (Known row.entry) =
        sym next.is_known ∙ ap (λ (t : ℕ). entry_at log t first.place) (next.of ∙ sym again.of) ∙ ap (λ (n : ℕ). entry_at log row.thread n) (next.is_next ∙ sym again.is_next) ∙ again.is_known in
        let same : first.entry ≡ row.entry = cc in
        let opens : is_open first.entry.found (counts_in p.counts) ≡ true = ap (λ (e : Entry). is_open e.found (counts_in p.counts)) same ∙ open_same row ∙ passes.opens in
        absurd (let clash : false ≡ true = sym shut ∙ opens in cc)

-- ---- one thread more of a round

pub round_more : (log : Log) (first old new : Passage) (number : ℕ) → IsLonger log first old → IsLonger log old new
    → (length old.rows.items ≡ length first.rows.items → (thread : ℕ) → thread < number → IsStuck log old.rows.items thread)
    → IsStuck log new.rows.items number
    → IsLonger log first new × (length new.rows.items ≡ length first.rows.items → (thread : ℕ) → thread < number + 1 → IsStuck log new.rows.items thread)
round_more log first old new number h k before stuck = (longer_more log first old new h k, later)
  where
    later : length new.rows.items ≡ length first.rows.items → (thread : ℕ) → thread < number + 1 → IsStuck log new.rows.items thread
    later same thread low =
        let up = grows log first old h in
        let more = grows log old new k in
        let as_old : length new.rows.items ≡ length old.rows.items = omega (arith, same, up, more) in
        let as_first : length old.rows.items ≡ length first.rows.items = omega (arith, same, up, more) in
        ⊎_elim (λ (lt : thread < number). subst (λ (l : List EntryRow). IsStuck log l thread) (sym (same_rows log old new k as_old)) (before as_first thread lt))
        (λ (is : thread ≡ number). subst (λ (t : ℕ). IsStuck log new.rows.items t) (sym is) stuck) (last_or thread number low)
      where
        last_or : (t n : ℕ) → t < n + 1 → (t < n) ⊎ (t ≡ n)
        last_or t n lt = go (cases_eq t n)
          where
            go : (t ≡ n) ⊎ (t ≡ n → ⊥) → (t < n) ⊎ (t ≡ n)
            go (inl e) = inr e
            go (inr ne) = inl (omega (arith, lt, ne))

-- ---- what is kept, when one row more is put

pub keeps_more : (old new : Passage) (row : EntryRow) → Keeps old → row.place ≡ places_behind old.rows.items row.thread → row.thread < 16 → length old.places ≡ 16
    → new.rows.items ≡ old.rows.items ++ row ∷ []
    → ((o : ℕ) → counts_in new.counts o ≡ count_behind o row.entry.found (counts_in old.counts o))
    → ((n : ℕ) → AreFew old.counts n → AreFew new.counts (n + 3))
    → new.places ≡ slice_set old.places row.thread (row.place + 1) → Keeps new
keeps_more old new row keeps at low sixteen is counted few put = record {
  counts = λ (o : ℕ). counted o ∙ ap (λ (n : Count). count_behind o row.entry.found n) (keeps.counts o) ∙ sym (behind_row old.rows.items row o)
      ∙ ap (λ (l : List EntryRow). counts_behind l o) (sym is);
  few = few_below new.counts (3 * length old.rows.items + 3) (3 * length new.rows.items) (omega (arith, long)) (few (3 * length old.rows.items) keeps.few);
  places = λ (t : ℕ) (lt : t < 16). ap (λ (l : List ℕ). slice_index_or l t 0) put ∙ at_thread t lt ∙ sym (places_row old.rows.items row t) ∙ ap (λ (l : List EntryRow). places_behind l t) (sym is);
} where
  long : length new.rows.items ≡ length old.rows.items + 1
  long = ap (λ (l : List EntryRow). length l) is ∙ length-append old.rows.items (row ∷ [])

  at_thread : (t : ℕ) → t < 16 → slice_index_or (slice_set old.places row.thread (row.place + 1)) t 0 ≡ cond (row.thread == t) (places_behind old.rows.items t + 1) (places_behind old.rows.items t)
  at_thread t lt = go (cases_eq t row.thread)
    where
      go : (t ≡ row.thread) ⊎ (t ≡ row.thread → ⊥) → slice_index_or (slice_set old.places row.thread (row.place + 1)) t 0 ≡ cond (row.thread == t) (places_behind old.rows.items t + 1) (places_behind old.rows.items t)
      go (inl same) =
          let set : slice_index_or (slice_set old.places row.thread (row.place + 1)) row.thread 0 ≡ row.place + 1 = get_or-set_same old.places row.thread (row.place + 1) 0 (omega (arith, low, sixteen)) in
          ap (λ (k : ℕ). slice_index_or (slice_set old.places row.thread (row.place + 1)) k 0) same ∙ set ∙ ap (λ (n : ℕ). n + 1) at
          ∙ ap (λ (k : ℕ). places_behind old.rows.items k + 1) (sym same)
          ∙ ap (λ (b : Bool). cond b (places_behind old.rows.items t + 1) (places_behind old.rows.items t)) (sym (eq-eqb row.thread t (sym same)))
      go (inr apart) =
          get_or-set_other old.places row.thread t (row.place + 1) 0 apart ∙ keeps.places t lt
          ∙ ap (λ (b : Bool). cond b (places_behind old.rows.items t + 1) (places_behind old.rows.items t)) (sym (ne_eqb row.thread t (λ e. apart (sym e))))
