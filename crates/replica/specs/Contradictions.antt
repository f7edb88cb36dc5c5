-- The lines that a listing has for the contradictions of its log.
use Rattle.std.specs.Prelude.{ℕ, List, [], ◌∷◌, ◌++◌, Option, Some, None, if◌then◌else◌, codes}
use Rattle.std.specs.List.{flat_map}
use Rattle.std.specs.Fmt.{decimal}
use Rattle.replica.specs.declared.log.Log.{Log}
use Rattle.replica.specs.declared.diverging.Diverging.{Diverging}
use Rattle.replica.specs.declared.diverging.Diverging.TheVariants.{Clash, DoubleWrite}
use Rattle.replica.specs.declared.diverging.EventAt.{EventAt}
use Rattle.replica.specs.declared.form.ListingForm.{ListingForm}
use Rattle.replica.specs.Divergence.{divergence}

-- `T.P`
abbrev pub event_text : EventAt → List ℕ
event_text at = decimal at.thread ++ codes "." ++ decimal at.place

-- `clash T.P` of an entry, `clash T end` of an end
abbrev pub clash_text : ℕ → Option ℕ → List ℕ
clash_text thread (Some place) = codes "clash " ++ event_text (record { thread = thread; place = place })
clash_text thread None = codes "clash " ++ decimal thread ++ codes " end"

-- `double wO@V T.P T.P`: the write of object O that found version V, and the two events that claim it
abbrev pub double_text : ℕ → ℕ → EventAt → EventAt → List ℕ
double_text object version first second =
    codes "double w" ++ decimal object ++ codes "@" ++ decimal version ++ codes " " ++ event_text first ++ codes " " ++ event_text second

abbrev pub contradiction_text : Diverging → List ℕ
contradiction_text (Clash thread place) = clash_text thread place
contradiction_text (DoubleWrite object version first second) = double_text object version first second

abbrev pub contradiction_line : Diverging → List ℕ
contradiction_line contradiction = contradiction_text contradiction ++ 10 ∷ []

-- the contradictions of which a form tells
abbrev pub told_by : ListingForm → Log → List Diverging
told_by form log = if form.contradictions then divergence log else []

abbrev pub contradictions_text : ListingForm → Log → List ℕ
contradictions_text form log = flat_map contradiction_line (told_by form log)
