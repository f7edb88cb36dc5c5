-- What the types of a function's instructions depend on. WebAssembly Core 1.0, validation, contexts.
use Rattle.std.specs.Prelude.{ℕ, ◌+◌, ◌||◌, Bool, true, false, List, [], ◌∷◌, ◌++◌, Option, Some, None, slice_get, take, drop, length, nat_le}
use Rattle.wasm_types.specs.declared.value.ValType.{ValType}
use Rattle.wasm_types.specs.Locals.{locals_of}
use Rattle.wasm_types.specs.declared.modules.Module.{Module}
use Rattle.wasm_types.specs.declared.modules.FuncType.{FuncType}
use Rattle.wasm_types.specs.declared.modules.Body.{Body}
use Rattle.wasm_types.specs.declared.instruction.LabelRange.{LabelRange}

pub record Context : Type 0 where
  pub within : Module
  -- the parameters, and the locals behind them
  pub locals : List ValType
  -- what each label takes, the innermost first
  pub labels : List (List ValType)
  pub result : List ValType
  -- the labels of the function's branch tables
  pub table_labels : List ℕ

-- inside one more block, whose label takes these
abbrev pub inside : List ValType → Context → Context
inside label c = record { within = c.within; locals = c.locals; labels = label ∷ c.labels; result = c.result; table_labels = c.table_labels }

-- inside blocks whose labels take these
abbrev pub with_labels : List (List ValType) → Context → Context
with_labels labels c = record { within = c.within; locals = c.locals; labels = labels; result = c.result; table_labels = c.table_labels }

-- a function of a type, outside its outermost block
abbrev pub context_of : Module → FuncType → Body → Context
context_of m kind body = record { within = m; locals = kind.params ++ locals_of body.locals; labels = []; result = kind.results; table_labels = body.labels }

-- a function's body is a block, whose label takes its result
abbrev pub outermost : Context → Context
outermost c = with_labels (c.result ∷ []) c

abbrev pub has_any : {X : Type 0} → List X → Bool
has_any [] = false
has_any (x ∷ xs) = true

-- a memory, imported or own
abbrev pub has_memory : Module → Bool
has_memory m = has_any m.imports || has_any m.memories

abbrev pub has_table : Module → Bool
has_table m = has_any m.tables

abbrev pub labels_by : Bool → List ℕ → ℕ → ℕ → Option (List ℕ)
labels_by false labels first count = None
labels_by true labels first count = Some (take count (drop first labels))

-- the labels of a branch table, where its range is within the function's
abbrev pub labels_in : List ℕ → LabelRange → Option (List ℕ)
labels_in labels range = labels_by (nat_le (range.first + range.count) (length labels)) labels range.first range.count

abbrev pub type_by : Module → Option ℕ → Option FuncType
type_by m None = None
type_by m (Some index) = slice_get m.types index

-- the type of a function
abbrev pub function_type : Module → ℕ → Option FuncType
function_type m function = type_by m (slice_get m.functions function)
