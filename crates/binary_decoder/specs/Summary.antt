-- The summary of a module: a line each for its types, functions, table, memory, globals, exports and start function. The
-- text is this project's own.
use Rattle.std.specs.Prelude.{ℕ, Bool, true, false, List, [], ◌∷◌, ◌++◌, length, Option, Some, None, codes}
use Rattle.std.specs.Fmt.{decimal}
use Rattle.wasm_types.specs.declared.modules.Limits.{Limits}
use Rattle.wasm_types.specs.declared.modules.MemoryType.{MemoryType}
use Rattle.wasm_types.specs.declared.modules.Module.{Module}
use Rattle.wasm_types.specs.Memories.{first_memory}

-- a number, or a word where there is none
abbrev pub or_word : List ℕ → Option ℕ → List ℕ
or_word word None = word
or_word word (Some n) = decimal n

-- the first table
abbrev pub first_table : List Limits → Option ℕ
first_table [] = None
first_table (table ∷ tables) = Some table.minimum

abbrev pub sharing : Bool → List ℕ
sharing true = codes "shared"
sharing false = codes "unshared"

abbrev pub memory_text : Option MemoryType → List ℕ
memory_text None = codes "none"
memory_text (Some m) = decimal m.limits.minimum ++ codes " " ++ or_word (codes "-") m.limits.maximum ++ codes " " ++ sharing m.shared

abbrev pub first_lines : ℕ → ℕ → List ℕ → List ℕ → List ℕ
first_lines types functions table memory =
    codes "types " ++ decimal types ++ codes "\nfunctions " ++ decimal functions ++ codes "\ntable " ++ table ++ codes "\nmemory " ++ memory ++ 10 ∷ []

abbrev pub last_lines : ℕ → ℕ → List ℕ → List ℕ
last_lines globals exports start = codes "globals " ++ decimal globals ++ codes "\nexports " ++ decimal exports ++ codes "\nstart " ++ start ++ 10 ∷ []

abbrev pub summary_text : Module → List ℕ
summary_text m =
    first_lines (length m.types) (length m.functions) (or_word (codes "none") (first_table m.tables)) (memory_text (first_memory m))
    ++ last_lines (length m.globals) (length m.exports) (or_word (codes "none") m.start)
