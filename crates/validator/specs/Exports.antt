-- Exported functions by name. WebAssembly Core 1.0, structure and validation, exports.
use Rattle.std.specs.Prelude.{◌≡◌, ℕ, ◌&&◌, Bool, true, false, List, [], ◌∷◌, Option, Some, None, is_none, position, if◌then◌else◌, take, String, string_bytes}
use Rattle.std.specs.Global.{Global}
use Rattle.std.specs.Hash.DefaultHasher as sip
use Rattle.sha2.specs.Sha256.{sha256}
use Rattle.validator.specs.declared.name_hasher.NameHasher.{NameHasher}
use Rattle.std.specs.Str.{IsUtf8, bytes_eq}
use Rattle.std.specs.Map.{lookup}
use Rattle.wasm_types.specs.declared.modules.Export.{Export}
use Rattle.wasm_types.specs.declared.modules.ExportKind.{ExportKind}
use Rattle.wasm_types.specs.declared.modules.ExportKind.TheVariants as export

-- the index, where a function is exported
abbrev pub function_index : ExportKind → ℕ → Option ℕ
function_index export.Function index = Some index
function_index export.Table index = None
function_index export.Memory index = None
function_index export.Global index = None

abbrev pub found_by : {X : Type 0} → Bool → X → Option X → Option X
found_by true x others = Some x
found_by false x others = others

-- the function's index, or none, of the first export of a name
abbrev pub find_export : List ℕ → List Export → Option (Option ℕ)
find_export name [] = None
find_export name (e ∷ es) = found_by (bytes_eq name e.name) (function_index e.kind e.index) (find_export name es)

-- no name comes twice
abbrev pub distinct : List Export → Bool
distinct [] = true
distinct (e ∷ es) = is_none (find_export e.name es) && distinct es

abbrev pub only_some : {X : Type 0} → Option (Option X) → Option X
only_some None = None
only_some (Some found) = found

-- the function that is exported under a name
abbrev pub exported_function : List Export → List ℕ → Option ℕ
exported_function exports name = only_some (find_export name exports)

-- what a map by name has at a name
abbrev pub value_of : List (String Global × ℕ) → List ℕ → Option ℕ
value_of names name = lookup (λ k. bytes_eq name (string_bytes k)) names

-- the number of the first export of a name
abbrev pub number_of : List Export → List ℕ → Option ℕ
number_of exports name = position (λ e. bytes_eq name e.name) exports

-- a map by name has at each text the number of the export that has this name, or none
abbrev pub AreNames : List (String Global × ℕ) → List Export → Type 0
AreNames names exports = (name : List ℕ) → IsUtf8 name → value_of names name ≡ number_of exports name

-- a map by name then has a number at a name, and at each other text what it had
abbrev pub PutsNumber : List (String Global × ℕ) → List ℕ → ℕ → List (String Global × ℕ) → Type 0
PutsNumber names name number later = (text : List ℕ) → value_of later text ≡ (if bytes_eq text name then Some number else value_of names text)

-- a hasher hands out what was fed with the first half of the digest of a module's bytes
abbrev pub HashesFor : List ℕ → NameHasher → Type 0
HashesFor source hasher = hasher.begun ≡ sip.write sip.initial (take 16 (sha256 source))
