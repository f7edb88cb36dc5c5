-- Lines that are made of rows, one behind the other.
use Rattle.std.proofs.Common.{◌≡◌, ℕ, ◌+◌, ◌<◌, Bool, true, false, cond, List, [], ◌∷◌, ◌++◌, length, drop, get_or, sym, ap, ◌∙◌, append_assoc, length-append}
use Rattle.std.specs.Prelude.{Option, Some, None, map}
use Rattle.std.proofs.lemmas.List.{drop_more}
use Rattle.rw_objects.specs.declared.touch.Found.{Found}
use Rattle.replica.specs.declared.touch.ObjectTouch.{ObjectTouch}
use Rattle.replica.specs.declared.passage.EntryRow.{EntryRow}
use Rattle.replica.specs.declared.versions_met.VersionsMet.{VersionsMet}
use Rattle.replica.specs.declared.versions_met.Mark.{Mark}
use Rattle.replica.specs.Touched.{touch_of}
use Rattle.replica.specs.ObjectLines.{Seen, LineValue, mark_of, touches_of, seen_with, line_of, lines_from}
use Rattle.replica.specs.Met.{HasMet}

-- the lines so far and those of the rows that are left are all
pub record Drawn (drawn : ℕ → EntryRow → Bool) (index : ℕ) (lines : List LineValue) (met : VersionsMet) (rest : List EntryRow) (all : List LineValue) : Type 0 where
  pub seen : List Seen
  pub has : HasMet met seen
  pub made : lines ++ lines_from drawn index (length lines) seen rest ≡ all

left_at : {X : Type 0} (xs : List X) (i : ℕ) (x : X) → i < length xs → x ≡ get_or xs i x → drop i xs ≡ x ∷ drop (i + 1) xs
left_at xs i x lt is = drop_more xs i x lt ∙ ap (λ y. y ∷ drop (i + 1) xs) (sym is)

module _ (drawn : ℕ → EntryRow → Bool) (all : List LineValue) (rows : List EntryRow) (i : ℕ) (row : EntryRow) (lt : i < length rows) (is : row ≡ get_or rows i row)
    (lines now : List LineValue) (met new : VersionsMet) (h : Drawn drawn i lines met (drop i rows) all) where
  abbrev rest : List EntryRow
  rest = drop (i + 1) rows

  next : lines ++ lines_from drawn i (length lines) h.seen (row ∷ rest) ≡ all
  next = ap (λ (l : List EntryRow). lines ++ lines_from drawn i (length lines) h.seen l) (sym (left_at rows i row lt is)) ∙ h.made

  abbrev by_test : Bool → List LineValue
  by_test b = cond b (line_of h.seen row ∷ lines_from drawn (i + 1) (length lines + 1) (seen_with (Some (length lines)) (touches_of row) h.seen) rest)
      (lines_from drawn (i + 1) (length lines) (seen_with None (touches_of row) h.seen) rest)

  pub drawn_row : drawn i row ≡ true → ((seen : List Seen) → HasMet met seen → now ≡ lines ++ line_of seen row ∷ [])
      → ((seen : List Seen) → HasMet met seen → HasMet new (seen_with (Some (length lines)) (touches_of row) seen)) → Drawn drawn (i + 1) now new rest all
  drawn_row is_so put has =
      let x = line_of h.seen row in
      let later = seen_with (Some (length lines)) (touches_of row) h.seen in
      let added : now ≡ lines ++ x ∷ [] = put h.seen h.has in
      let long : length now ≡ length lines + 1 = ap (λ (l : List LineValue). length l) added ∙ length-append lines (x ∷ []) in
      record {
        seen = later;
        has = has h.seen h.has;
        made = ap (λ (n : ℕ). now ++ lines_from drawn (i + 1) n later rest) long
            ∙ ap (λ (l : List LineValue). l ++ lines_from drawn (i + 1) (length lines + 1) later rest) added
            ∙ append_assoc lines (x ∷ []) (lines_from drawn (i + 1) (length lines + 1) later rest)
            ∙ ap (λ (b : Bool). lines ++ by_test b) (sym is_so) ∙ next;
      }

  pub left_out : drawn i row ≡ false → now ≡ lines → ((seen : List Seen) → HasMet met seen → HasMet new (seen_with None (touches_of row) seen)) → Drawn drawn (i + 1) now new rest all
  left_out not_so same has =
      let later = seen_with None (touches_of row) h.seen in
      record {
        seen = later;
        has = has h.seen h.has;
        made = ap (λ (l : List LineValue). l ++ lines_from drawn (i + 1) (length l) later rest) same ∙ ap (λ (b : Bool). lines ++ by_test b) (sym not_so) ∙ next;
      }

  pub row_more : (b : Bool) → drawn i row ≡ b
      → ((seen : List Seen) → HasMet met seen → now ≡ cond b (lines ++ line_of seen row ∷ []) lines)
      → ((seen : List Seen) → HasMet met seen → HasMet new (seen_with (cond b (Some (length lines)) None) (touches_of row) seen)) → Drawn drawn (i + 1) now new rest all
  row_more true is_so put has = drawn_row is_so put has
  row_more false not_so put has = left_out not_so (put h.seen h.has) has

-- ---- the touches of a row

-- the touches of which the first ones are added
pub record Added (line : Option ℕ) (met : VersionsMet) (left : List ObjectTouch) (all : List Seen) : Type 0 where
  pub seen : List Seen
  pub has : HasMet met seen
  pub rest : seen_with line left seen ≡ all

module _ (thread place : ℕ) (found : List Found) (i : ℕ) (d : Found) (lt : i < length found) where
  abbrev touch : ObjectTouch
  touch = touch_of thread place (get_or found i d)

  abbrev later : List ObjectTouch
  later = map (touch_of thread place) (drop (i + 1) found)

  touches_at : map (touch_of thread place) (drop i found) ≡ touch ∷ later
  touches_at = ap (λ (fs : List Found). map (touch_of thread place) fs) (drop_more found i d lt)

  pub added_more : (line : Option ℕ) (met new : VersionsMet) (all : List Seen) → ((seen : List Seen) → HasMet met seen → HasMet new (record { touch = touch; line = line } ∷ seen))
      → Added line met (map (touch_of thread place) (drop i found)) all → Added line new later all
  added_more line met new all has h = record {
    seen = record { touch = touch; line = line } ∷ h.seen;
    has = has h.seen h.has;
    rest = ap (λ (ts : List ObjectTouch). seen_with line ts h.seen) (sym touches_at) ∙ h.rest;
  }

  pub marks_more : (seen : List Seen) (marks now all : List Mark) → now ≡ marks ++ mark_of seen touch ∷ []
      → marks ++ map (mark_of seen) (map (touch_of thread place) (drop i found)) ≡ all → now ++ map (mark_of seen) later ≡ all
  marks_more seen marks now all put h =
      ap (λ (l : List Mark). l ++ map (mark_of seen) later) put ∙ append_assoc marks (mark_of seen touch ∷ []) (map (mark_of seen) later)
      ∙ ap (λ (ts : List ObjectTouch). marks ++ map (mark_of seen) ts) (sym touches_at) ∙ h
