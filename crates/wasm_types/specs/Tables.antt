-- The table with which a module opens. WebAssembly Core 1.0, execution, instantiation.
use Rattle.std.specs.Prelude.{ℕ, ◌+◌, List, [], ◌∷◌, ◌++◌, Option, Some, None, length, map, take, drop, replicate, slice_get}
use Rattle.wasm_types.specs.declared.modules.Module.{Module}
use Rattle.wasm_types.specs.declared.modules.Limits.{Limits}
use Rattle.wasm_types.specs.declared.modules.Element.{Element}
use Rattle.wasm_types.specs.Values.{bits_of}

-- how many elements it has: none without one
abbrev pub elements_by : Option Limits → ℕ
elements_by None = 0
elements_by (Some limits) = limits.minimum

abbrev pub empty_by : Option Limits → List (Option ℕ)
empty_by None = []
empty_by (Some limits) = replicate limits.minimum None

-- a table with functions put into it from a place on
abbrev pub with_functions : ℕ → List ℕ → List (Option ℕ) → List (Option ℕ)
with_functions at functions table = take at table ++ (map (λ f. Some f) functions ++ drop (at + length functions) table)

-- the segments are written in order
abbrev pub with_elements : List Element → List (Option ℕ) → List (Option ℕ)
with_elements [] table = table
with_elements (e ∷ es) table = with_elements es (with_functions (bits_of e.offset) e.functions table)

abbrev pub opening_table : Module → List (Option ℕ)
opening_table m = with_elements m.elements (empty_by (slice_get m.tables 0))
