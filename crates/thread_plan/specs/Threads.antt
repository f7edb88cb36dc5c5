-- Thread lines of a plan.
use Rattle.std.specs.Prelude.{ℕ, ◌&&◌, List, [], ◌∷◌, Option, Some, None, Result, Ok, Err, codes, if◌then◌else◌}
use Rattle.std.specs.List.{list_all}
use Rattle.std.specs.Str.{bytes_eq, is_utf8}
use Rattle.wasm_types.specs.declared.value.Value.{Value}
use Rattle.wasm_types.specs.declared.modules.Module.{Module}
use Rattle.wasm_types.specs.declared.modules.FuncType.{FuncType}
use Rattle.validator.specs.Context.{function_type}
use Rattle.validator.specs.Exports.{exported_function}
use Rattle.thread_plan.specs.declared.planned_thread.PlannedThread.{PlannedThread}
use Rattle.text_lines.specs.Parts.{words}
use Rattle.text_lines.specs.Integers.{is_decimal}
use Rattle.thread_plan.specs.Arguments.{values_of}
use Rattle.thread_plan.specs.Refusals.{Refusal, BadLine, NoExport, WrongArguments}

-- the name and the arguments of a line of these words: `thread`, a name in UTF-8, and integers
abbrev pub form_of : List (List ℕ) → Option (List ℕ × List (List ℕ))
form_of [] = None
form_of (word ∷ []) = None
form_of (word ∷ name ∷ arguments) = if bytes_eq word (codes "thread") && (is_utf8 name && list_all is_decimal arguments) then Some (name, arguments) else None

abbrev pub values_by : Option FuncType → List (List ℕ) → Option (List Value)
values_by None arguments = None
values_by (Some kind) arguments = values_of kind.params arguments

abbrev pub thread_by : ℕ → ℕ → Option (List Value) → Result PlannedThread Refusal
thread_by number function None = Err (WrongArguments number)
thread_by number function (Some values) = Ok (record { function = function; arguments = values })

abbrev pub called : Module → ℕ → List (List ℕ) → Option ℕ → Result PlannedThread Refusal
called m number arguments None = Err (NoExport number)
called m number arguments (Some function) = thread_by number function (values_by (function_type m function) arguments)

abbrev pub judged : Module → ℕ → Option (List ℕ × List (List ℕ)) → Result PlannedThread Refusal
judged m number None = Err (BadLine number)
judged m number (Some form) = called m number form.1 (exported_function m.exports form.0)

-- the thread of a line, which has that number
abbrev pub thread_at : Module → ℕ → List ℕ → Result PlannedThread Refusal
thread_at m number line = judged m number (form_of (words line))
