-- Plans of threads.
use Rattle.std.specs.Prelude.{◌≡◌, ℕ, ◌+◌, ◌^◌, ◌<◌, ◌≤◌, ◌&&◌, true, not, List, [], ◌∷◌, Result, Ok, Err, Some, codes, length, take, map, nat_lt, All, if◌then◌else◌}
use Rattle.std.specs.Str.{bytes_eq}
use Rattle.wasm_types.specs.declared.sizes.TheConstants.{MOST_THREADS}
use Rattle.wasm_types.specs.declared.value.Value.{Value}
use Rattle.wasm_types.specs.declared.value.Value.TheVariants.{I32, I64}
use Rattle.wasm_types.specs.declared.modules.Module.{Module}
use Rattle.wasm_types.specs.declared.modules.FuncType.{FuncType}
use Rattle.wasm_types.specs.Values.{type_of}
use Rattle.validator.specs.Context.{function_type}
use Rattle.thread_plan.specs.declared.planned_thread.PlannedThread.{PlannedThread}
use Rattle.text_lines.specs.Parts.{lines}
use Rattle.wasm_types.specs.Memories.{allows_threads}
use Rattle.wasm_types.specs.Segments.{segments_fit}
use Rattle.thread_plan.specs.Threads.{thread_at}
use Rattle.thread_plan.specs.Refusals.{Refusal, BadLine, NotShared, SegmentOutOfBounds}

-- a plan's text, and its threads by number
pub record PlanValue : Type 0 where
  pub bytes : List ℕ
  pub threads : List PlannedThread

-- the first refusal, or what follows from the value
abbrev pub and_then : {X Y : Type 0} → Result X Refusal → (X → Result Y Refusal) → Result Y Refusal
and_then (Ok x) f = f x
and_then (Err refusal) f = Err refusal

-- the threads of lines that are numbered from `number` on
abbrev pub threads_from : Module → ℕ → List (List ℕ) → Result (List PlannedThread) Refusal
threads_from m number [] = Ok []
threads_from m number (line ∷ lines) = and_then (thread_at m number line) (λ thread. and_then (threads_from m (number + 1) lines) (λ threads. Ok (thread ∷ threads)))

abbrev pub at_most_16 : ℕ → List PlannedThread → Result (List PlannedThread) Refusal
at_most_16 count threads = if nat_lt MOST_THREADS count then Err (BadLine 18) else Ok threads

-- the threads of the lines behind the first, of which there are 1 to 16
abbrev pub threads_of : Module → List (List ℕ) → Result (List PlannedThread) Refusal
threads_of m [] = Err (BadLine 2)
threads_of m (line ∷ lines) = and_then (threads_from m 2 (take MOST_THREADS (line ∷ lines))) (λ threads. at_most_16 (length (line ∷ lines)) threads)

-- the first line says what the text is
abbrev pub threads_in : Module → List (List ℕ) → Result (List PlannedThread) Refusal
threads_in m [] = Err (BadLine 1)
threads_in m (line ∷ lines) = if bytes_eq line (codes "wreplay plan 1") then threads_of m lines else Err (BadLine 1)

-- what the module has to be for these threads
abbrev pub planned : Module → List ℕ → List PlannedThread → Result PlanValue Refusal
planned m bytes threads = if nat_lt 1 (length threads) && not (allows_threads m) then Err NotShared
    else (if segments_fit m then Ok (record { bytes = bytes; threads = threads }) else Err SegmentOutOfBounds)

-- the plan that bytes spell for a module, or its first refusal
abbrev pub plan_of : Module → List ℕ → Result PlanValue Refusal
plan_of m bytes = and_then (threads_in m (lines bytes)) (planned m bytes)

-- the bits that a type has
abbrev pub IsInRange : Value → Type 0
IsInRange (I32 bits) = bits < 2 ^ 32
IsInRange (I64 bits) = bits < 2 ^ 64

-- a function of the module, with a value for each parameter
pub record IsThreadOf (m : Module) (thread : PlannedThread) : Type 0 where
  pub kind : FuncType
  pub has_type : function_type m thread.function ≡ Some kind
  pub typed : map type_of thread.arguments ≡ kind.params
  pub in_range : All IsInRange thread.arguments

-- the plan suits the module
pub record IsPlanOf (m : Module) (plan : PlanValue) : Type 0 where
  pub some_thread : 0 < length plan.threads
  pub at_most_16_threads : length plan.threads ≤ MOST_THREADS
  pub threads : All (IsThreadOf m) plan.threads
  pub shared : 1 < length plan.threads → allows_threads m ≡ true
  pub segments : segments_fit m ≡ true
