-- The text of an end.
use Rattle.std.specs.Prelude.{ℕ, List, ◌++◌, codes}
use Rattle.std.specs.Fmt.{decimal}
use Rattle.wasm_types.specs.Text.{outcome_text}
use Rattle.log_pieces.specs.declared.end.End.{End}

abbrev pub end_text : End → List ℕ
end_text e = codes "steps=" ++ decimal e.steps ++ codes " places=" ++ decimal e.places ++ codes " " ++ outcome_text e.outcome
