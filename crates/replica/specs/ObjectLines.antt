-- Which rows are drawn, and how: from whose line an arrow comes, and which writes are unread.
use Rattle.std.specs.Prelude.{ℕ, ◌+◌, ◌==◌, nat_le, ◌&&◌, ◌||◌, not, Bool, if◌then◌else◌, List, [], ◌∷◌, map, length, Option, Some, None}
use Rattle.std.specs.List.{list_any, prefix_len}
use Rattle.std.specs.Option.{option_map}
use Rattle.rw_objects.specs.Touch as found
use Rattle.replica.specs.declared.diverging.EventAt.{EventAt}
use Rattle.replica.specs.declared.touch.ObjectTouch.{ObjectTouch}
use Rattle.replica.specs.declared.passage.EntryRow.{EntryRow}
use Rattle.replica.specs.declared.chart_choice.ChartChoice.{ChartChoice}
use Rattle.replica.specs.declared.versions_met.LineAt.{LineAt}
use Rattle.replica.specs.declared.versions_met.Mark.{Mark}
use Rattle.replica.specs.Rising.{having}
use Rattle.replica.specs.Touched.{object_of, thread_of, version_of, touch_of}
use Rattle.replica.specs.Versions.{is_write, knew}
use Rattle.replica.specs.Chosen.{is_named}

-- what is asked for: accesses of these objects, where any is named, from the row of an event on, up to that of another
pub record ChartAsked : Type 0 where
  pub only : List ℕ
  pub from : Option EventAt
  pub to : Option EventAt

abbrev pub chart_asked : ChartChoice → ChartAsked
chart_asked choice = record { only = choice.only.now; from = choice.from; to = choice.to }

-- ---- which rows are drawn

abbrev pub is_row_of : EventAt → EntryRow → Bool
is_row_of at row = row.thread == at.thread && row.place == at.place

-- how many rows stand in front of the row of an event: all, where it has none
abbrev pub rows_before : List EntryRow → EventAt → ℕ
rows_before rows at = prefix_len (λ row. not (is_row_of at row)) rows

abbrev pub first_drawn : List EntryRow → Option EventAt → ℕ
first_drawn rows None = 0
first_drawn rows (Some at) = rows_before rows at

abbrev pub last_drawn : List EntryRow → Option EventAt → ℕ
last_drawn rows None = length rows
last_drawn rows (Some at) = rows_before rows at

-- an access touches an object that is asked for
abbrev pub is_asked : List ℕ → EntryRow → Bool
is_asked only row = length only == 0 || list_any (λ f. is_named only (found.object_of f)) row.entry.found

-- a row at an index is drawn: from one index up to another
abbrev pub is_between : ℕ → ℕ → List ℕ → ℕ → EntryRow → Bool
is_between first last only index row = nat_le first index && (nat_le index last && is_asked only row)

abbrev pub is_drawn : ChartAsked → List EntryRow → ℕ → EntryRow → Bool
is_drawn asked rows = is_between (first_drawn rows asked.from) (last_drawn rows asked.to) asked.only

-- ---- what was met

-- a touch of a row, and the line on which the row is drawn, if it is
pub record Seen : Type 0 where
  pub touch : ObjectTouch
  pub line : Option ℕ

abbrev pub touch_in : Seen → ObjectTouch
touch_in s = s.touch

-- the line of a touch, if it is drawn
abbrev pub line_at : ObjectTouch → Option ℕ → Option LineAt
line_at t line = option_map (λ n. record { thread = thread_of t; line = n }) line

-- the line of the write that made a version, if it is drawn; the touches stand with the last one first
abbrev pub maker_of : ℕ → ℕ → List Seen → Option LineAt
maker_of object version [] = None
maker_of object version (s ∷ seen) =
    if is_write s.touch && (object_of s.touch == object && version_of s.touch == version)
    then line_at s.touch s.line
    else maker_of object version seen

-- a thread read or made a version
abbrev pub knows : ℕ → ℕ → List Seen → ℕ → Bool
knows object version seen thread = knew (having object_of object (map touch_in seen)) (version + 1) thread

-- a line of another thread
abbrev pub of_other : ℕ → Option LineAt → Option LineAt
of_other thread None = None
of_other thread (Some at) = if at.thread == thread then None else Some at

-- how a touch is drawn behind these: version 0 no thread made
abbrev pub mark_of : List Seen → ObjectTouch → Mark
mark_of seen t = record {
  object = object_of t;
  version = version_of t;
  is_write = is_write t;
  is_unread = is_write t && (not (version_of t == 1) && not (knows (object_of t) t.found seen (thread_of t)));
  from = of_other (thread_of t) (maker_of (object_of t) t.found seen);
}

abbrev pub touches_of : EntryRow → List ObjectTouch
touches_of row = map (touch_of row.thread row.place) row.entry.found

-- the touches of a row in front of the others, the last one first
abbrev pub seen_with : Option ℕ → List ObjectTouch → List Seen → List Seen
seen_with line [] seen = seen
seen_with line (t ∷ ts) seen = seen_with line ts (record { touch = t; line = line } ∷ seen)

-- ---- the lines

-- an access, as it is drawn
pub record LineValue : Type 0 where
  pub thread : ℕ
  pub place : ℕ
  pub marks : List Mark

abbrev pub line_of : List Seen → EntryRow → LineValue
line_of seen row = record { thread = row.thread; place = row.place; marks = map (mark_of seen) (touches_of row) }

-- the lines of rows from an index on, from that line on
abbrev pub lines_from : (ℕ → EntryRow → Bool) → ℕ → ℕ → List Seen → List EntryRow → List LineValue
lines_from drawn index line seen [] = []
lines_from drawn index line seen (row ∷ rows) =
    if drawn index row
    then line_of seen row ∷ lines_from drawn (index + 1) (line + 1) (seen_with (Some line) (touches_of row) seen) rows
    else lines_from drawn (index + 1) line (seen_with None (touches_of row) seen) rows

abbrev pub lines_of : ChartAsked → List EntryRow → List LineValue
lines_of asked rows = lines_from (is_drawn asked rows) 0 0 [] rows
