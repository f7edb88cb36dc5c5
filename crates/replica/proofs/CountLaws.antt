-- Counts behind rows.
use Rattle.std.proofs.Common.{◌≡◌, ℕ, ◌+◌, ◌≤◌, Bool, true, false, cond, ◌&&◌, List, [], ◌∷◌, ◌++◌, length, drop, get_or, ◌<◌, refl, ap, ◌∙◌, arith, append-nil}
use Rattle.std.specs.Prelude.{◌==◌}
use Rattle.std.proofs.lemmas.Grind.{flat_map-append}
use Rattle.std.proofs.lemmas.List.{drop_more}
use Rattle.std.proofs.lemmas.List.Sums.{sum_by-append}
use Rattle.rw_objects.specs.declared.count.Count.{Count}
use Rattle.rw_objects.specs.declared.touch.Found.{Found}
use Rattle.rw_objects.specs.Counts.{no_count}
use Rattle.rw_objects.specs.Touch.{object_of}
use Rattle.replica.specs.declared.object_counts.ObjectCounts.{ObjectCounts}
use Rattle.replica.specs.declared.passage.EntryRow.{EntryRow}
use Rattle.replica.specs.Counted.{count_with, count_behind, meets, is_open}
use Rattle.replica.specs.Passage.{found_in, counts_behind, places_behind}
use Rattle.replica.specs.Kept.{AreFew}

behind_append : (o : ℕ) (fs gs : List Found) (c : Count) → count_behind o (fs ++ gs) c ≡ count_behind o gs (count_behind o fs c)
behind_append o [] gs c = refl
behind_append o (f ∷ fs) gs c = behind_append o fs gs (count_with o f c)

-- one row more
pub behind_row : (rows : List EntryRow) (row : EntryRow) (o : ℕ) → counts_behind (rows ++ row ∷ []) o ≡ count_behind o row.entry.found (counts_behind rows o)
behind_row rows row o =
    ap (λ (fs : List Found). count_behind o fs no_count) (flat_map-append (λ (r : EntryRow). r.entry.found) rows (row ∷ []) ∙ ap (λ (fs : List Found). found_in rows ++ fs) (append-nil row.entry.found))
    ∙ behind_append o (found_in rows) row.entry.found no_count

pub open_agree : (a b : ℕ → Count) → ((o : ℕ) → a o ≡ b o) → (fs : List Found) → is_open fs a ≡ is_open fs b
open_agree a b same [] = refl
open_agree a b same (f ∷ fs) =
    ap (λ (c : Count). meets f c && is_open fs a) (same (object_of f)) ∙ ap (λ (r : Bool). meets f (b (object_of f)) && r) (open_agree a b same fs)

pub few_below : (counts : ObjectCounts) (a b : ℕ) → a ≤ b → AreFew counts a → AreFew counts b
few_below counts a b le few o = let h = few o in (omega (arith, h.0, le), omega (arith, h.1, le))

pub places_row : (rows : List EntryRow) (row : EntryRow) (t : ℕ) → places_behind (rows ++ row ∷ []) t ≡ cond (row.thread == t) (places_behind rows t + 1) (places_behind rows t)
places_row rows row t = sum_by-append (λ (r : EntryRow). cond (r.thread == t) 1 0) rows (row ∷ []) ∙ go (row.thread == t)
  where
    go : (b : Bool) → places_behind rows t + (0 + cond b 1 0) ≡ cond b (places_behind rows t + 1) (places_behind rows t)
    go true = omega arith
    go false = omega arith

-- ---- one touch more of an entry

module _ (fs : List Found) (i : ℕ) (d : Found) (lt : i < length fs) where
  pub open_next : (counts : ℕ → Count) → is_open (drop i fs) counts ≡ (meets (get_or fs i d) (counts (object_of (get_or fs i d))) && is_open (drop (i + 1) fs) counts)
  open_next counts = ap (λ (l : List Found). is_open l counts) (drop_more fs i d lt)

  pub behind_next : (o : ℕ) (c : Count) → count_behind o (drop i fs) c ≡ count_behind o (drop (i + 1) fs) (count_with o (get_or fs i d) c)
  behind_next o c = ap (λ (l : List Found). count_behind o l c) (drop_more fs i d lt)
