-- The listing of a log: the run, by rising thread its items by rising place and its end, the counts, and the lines of
-- its contradictions where the form tells of them.
use Rattle.std.specs.Prelude.{ℕ, suc, List, [], ◌∷◌, ◌++◌, Option, Some, None, false, codes}
use Rattle.std.specs.List.{flat_map}
use Rattle.std.specs.Fmt.{decimal}
use Rattle.wasm_types.specs.Text.{key_text}
use Rattle.rw_objects.specs.declared.entry.Entry.{Entry}
use Rattle.rw_objects.specs.Text.{entry_text}
use Rattle.log_pieces.specs.declared.end.End.{End}
use Rattle.log_pieces.specs.Text.{end_text}
use Rattle.log_pieces.specs.declared.flat.Flat.{Flat}
use Rattle.log_pieces.specs.declared.flat.Flat.TheVariants.{Known, Clash}
use Rattle.replica.specs.declared.thread_log.ThreadLog.{ThreadLog}
use Rattle.replica.specs.declared.log.Log.{Log}
use Rattle.replica.specs.Counts.{ends, missing, strays, clashes}
use Rattle.replica.specs.declared.form.ListingForm.{ListingForm}
use Rattle.replica.specs.Objects.{blocks_of, objects_text}
use Rattle.replica.specs.Contradictions.{contradictions_text}

abbrev pub item_text : Flat Entry → List ℕ
item_text (Known entry) = entry_text entry
item_text Clash = codes "clash"

-- `T.P` and the entry, or `clash`; where objects are told, which bytes those are that the entry touches
abbrev pub item_line : Option ℕ → ℕ → ℕ × Flat Entry → List ℕ
item_line blocks thread e = decimal thread ++ codes "." ++ decimal e.0 ++ codes " " ++ item_text e.1 ++ objects_text blocks e.1 ++ 10 ∷ []

abbrev pub claimed_end_text : Flat End → List ℕ
claimed_end_text (Known end) = end_text end
claimed_end_text Clash = codes "clash"

-- `T end` and the end, or `clash`
abbrev pub end_line : ℕ → Option (Flat End) → List ℕ
end_line thread None = []
end_line thread (Some end) = decimal thread ++ codes " end " ++ claimed_end_text end ++ 10 ∷ []

abbrev pub thread_lines : Option ℕ → ℕ → ThreadLog → List ℕ
thread_lines blocks thread log = flat_map (item_line blocks thread) log.entries ++ end_line thread log.end

abbrev pub lines_from : Option ℕ → ℕ → List ThreadLog → List ℕ
lines_from blocks thread [] = []
lines_from blocks thread (log ∷ logs) = thread_lines blocks thread log ++ lines_from blocks (suc thread) logs

abbrev pub counts_line : ℕ → ℕ → ℕ → ℕ → List ℕ
counts_line ends missing strays clashes =
    codes "ends " ++ decimal ends ++ codes " missing " ++ decimal missing ++ codes " strays " ++ decimal strays ++ codes " clashes " ++ decimal clashes ++ 10 ∷ []

-- the form that says nothing more
abbrev pub plain : ListingForm
plain = record { objects = false; contradictions = false }

abbrev pub listing : ListingForm → Log → List ℕ
listing form log = codes "run " ++ key_text log.key ++ 10 ∷ [] ++ lines_from (blocks_of form log.key.profile) 0 log.threads
    ++ counts_line (ends log) (missing log) (strays log) (clashes log) ++ contradictions_text form log

-- the listing where no piece came
abbrev pub empty_listing : List ℕ
empty_listing = codes "run none" ++ 10 ∷ counts_line 0 0 0 0
