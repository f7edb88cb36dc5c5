-- The rules of a module, outside its function bodies. WebAssembly Core 1.0, validation, modules and types; for shared
-- memories the threads proposal.
use Rattle.std.specs.Prelude.{ℕ, ◌+◌, ◌^◌, ◌&&◌, Bool, true, false, List, [], ◌∷◌, Option, Some, None, length, nat_le, nat_lt, nat_eq}
use Rattle.std.specs.List.{list_all}
use Rattle.wasm_types.specs.declared.sizes.TheConstants.{MOST_PAGES}
use Rattle.wasm_types.specs.declared.value.ValType.TheVariants.{I32}
use Rattle.wasm_types.specs.declared.modules.Module.{Module}
use Rattle.wasm_types.specs.declared.modules.FuncType.{FuncType}
use Rattle.wasm_types.specs.declared.modules.Body.{Body}
use Rattle.wasm_types.specs.declared.modules.Limits.{Limits}
use Rattle.wasm_types.specs.declared.modules.MemoryType.{MemoryType}
use Rattle.wasm_types.specs.declared.modules.Import.{Import}
use Rattle.wasm_types.specs.declared.modules.Global.{Global}
use Rattle.wasm_types.specs.declared.modules.Export.{Export}
use Rattle.wasm_types.specs.declared.modules.ExportKind.{ExportKind}
use Rattle.wasm_types.specs.declared.modules.ExportKind.TheVariants as export
use Rattle.wasm_types.specs.declared.modules.Element.{Element}
use Rattle.wasm_types.specs.declared.modules.Data.{Data}
use Rattle.wasm_types.specs.Values.{same_type, type_of}
use Rattle.validator.specs.Context.{function_type}

abbrev pub is_there : {X : Type 0} → List X → ℕ → Bool
is_there xs index = nat_lt index (length xs)

-- at most one result a type
abbrev pub has_one_result : FuncType → Bool
has_one_result kind = nat_le (length kind.results) 1

abbrev pub types_fit : Module → Bool
types_fit m = list_all has_one_result m.types

-- each function has a type and a body; as each number of the binary format is below two to the power of 32, so are the
-- numbers of functions and of a function's instructions
abbrev pub is_short : Body → Bool
is_short body = nat_lt (length body.code) (2 ^ 32)

abbrev pub functions_fit : Module → Bool
functions_fit m = list_all (is_there m.types) m.functions && nat_eq (length m.functions) (length m.bodies) && nat_lt (length m.functions) (2 ^ 32) && list_all is_short m.bodies

abbrev pub is_at_most : Option ℕ → ℕ → Bool
is_at_most None limit = true
is_at_most (Some number) limit = nat_le number limit

abbrev pub is_at_least : Option ℕ → ℕ → Bool
is_at_least None limit = true
is_at_least (Some number) limit = nat_le limit number

-- a minimum is at most its maximum
abbrev pub limits_fit : Limits → Bool
limits_fit limits = is_at_least limits.maximum limits.minimum

abbrev pub tables_fit : Module → Bool
tables_fit m = nat_le (length m.tables) 1 && list_all limits_fit m.tables

-- a shared memory has a maximum
abbrev pub is_bounded : Bool → Option ℕ → Bool
is_bounded false maximum = true
is_bounded true None = false
is_bounded true (Some number) = true

-- at most 65,536 pages
abbrev pub memory_fits : MemoryType → Bool
memory_fits memory = limits_fit memory.limits && nat_le memory.limits.minimum MOST_PAGES && is_at_most memory.limits.maximum MOST_PAGES && is_bounded memory.shared memory.limits.maximum

abbrev pub import_fits : Import → Bool
import_fits import = memory_fits import.memory

abbrev pub memories : Module → ℕ
memories m = length m.imports + length m.memories

abbrev pub memories_fit : Module → Bool
memories_fit m = nat_le (memories m) 1 && list_all import_fits m.imports && list_all memory_fits m.memories

-- a global begins with a value of its type
abbrev pub global_fits : Global → Bool
global_fits global = same_type (type_of global.value) global.val_type

abbrev pub globals_fit : Module → Bool
globals_fit m = list_all global_fits m.globals

abbrev pub is_named : Module → ExportKind → ℕ → Bool
is_named m export.Function index = is_there m.functions index
is_named m export.Table index = is_there m.tables index
is_named m export.Memory index = nat_lt index (memories m)
is_named m export.Global index = is_there m.globals index

abbrev pub export_fits : Module → Export → Bool
export_fits m exported = is_named m exported.kind exported.index

abbrev pub exports_fit : Module → Bool
exports_fit m = list_all (export_fits m) m.exports

abbrev pub is_without : {X : Type 0} → List X → Bool
is_without [] = true
is_without (x ∷ xs) = false

-- the start function takes and leaves nothing
abbrev pub starts : Option FuncType → Bool
starts None = false
starts (Some kind) = is_without kind.params && is_without kind.results

abbrev pub start_by : Module → Option ℕ → Bool
start_by m None = true
start_by m (Some function) = starts (function_type m function)

abbrev pub start_fits : Module → Bool
start_fits m = start_by m m.start

abbrev pub element_fits : Module → Element → Bool
element_fits m element = is_there m.tables element.table && same_type (type_of element.offset) I32 && list_all (is_there m.functions) element.functions

abbrev pub elements_fit : Module → Bool
elements_fit m = list_all (element_fits m) m.elements

abbrev pub data_fits : Module → Data → Bool
data_fits m data_segment = nat_lt data_segment.memory (memories m) && same_type (type_of data_segment.offset) I32

abbrev pub data_fit : Module → Bool
data_fit m = list_all (data_fits m) m.data

-- all of these; that export names are distinct stands beside the exported functions
abbrev pub rules : Module → Bool
rules m = types_fit m && functions_fit m && tables_fit m && memories_fit m && globals_fit m && exports_fit m && start_fits m && elements_fit m && data_fit m
