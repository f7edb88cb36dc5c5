-- What is said of where threads stand.
use Rattle.std.specs.Prelude.{Bool, true, false}
use Rattle.debug_views.specs.declared.notes.Notes.{Notes}
use Rattle.debug_views.specs.declared.notes.Notes.TheVariants.{Nothing, Names, Offsets}

-- offsets stand beside names
abbrev pub notes_by : Bool → Bool → Notes
notes_by names true = Offsets
notes_by true false = Names
notes_by false false = Nothing
