-- Three rows that touch object 3: thread 1 makes version 1, thread 0 reads it, and thread 2 writes over it, unread.
use Rattle.std.specs.Prelude.{ℕ, List, [], ◌∷◌, None}
use Rattle.rw_objects.specs.declared.entry.Kind.TheVariants.{Access}
use Rattle.rw_objects.specs.declared.touch.Found.{Found}
use Rattle.rw_objects.specs.declared.touch.Found.TheVariants.{Read, Write}
use Rattle.replica.specs.declared.passage.EntryRow.{EntryRow}
use Rattle.replica.specs.ObjectLines.{ChartAsked}

abbrev row_of : ℕ → Found → EntryRow
row_of thread found = record { thread = thread; place = 0; entry = record { kind = Access; found = found ∷ [] } }

abbrev pub example_rows : List EntryRow
example_rows = row_of 1 (Write 3 0 0) ∷ row_of 0 (Read 3 1) ∷ row_of 2 (Write 3 1 1) ∷ []

abbrev pub ask_all : ChartAsked
ask_all = record { only = []; from = None; to = None }
