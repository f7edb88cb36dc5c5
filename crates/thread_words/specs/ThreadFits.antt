-- A thread fits its module: the function on top fits, and each caller goes on with the results of the one above it.
use Rattle.std.specs.Prelude.{◌≡◌, ◌≤◌, ℕ, List, [], ◌∷◌, Option, Some, None, length, reverse}
use Rattle.wasm_types.specs.declared.value.Value.{Value}
use Rattle.wasm_types.specs.declared.value.ValType.{ValType}
use Rattle.wasm_types.specs.declared.value.ValType.TheVariants.{I32}
use Rattle.wasm_types.specs.declared.outcome.Outcome.{Outcome}
use Rattle.wasm_types.specs.declared.outcome.Outcome.TheVariants as outcome
use Rattle.wasm_types.specs.declared.operation.Action.{Action}
use Rattle.wasm_types.specs.declared.operation.Reply.{Reply}
use Rattle.wasm_types.specs.declared.modules.Module.{Module}
use Rattle.wasm_types.specs.declared.key.Profile.{Profile}
use Rattle.wasm_types.specs.Values.{type_of}
use Rattle.validator.specs.Valid.{WellTyped}
use Rattle.thread_words.specs.Instance.{Instance, HasFunctions}
use Rattle.thread_words.specs.Activation.{Activation, types, with_globals}
use Rattle.thread_words.specs.Fits.{ActivationFits, WaitsFor, global_types}
use Rattle.thread_words.specs.Thread.{Function, function_at, context, Invocation, State, Runs, Sleeps, Ends, Move, Local, Ask, Asleep, Halted, move}
use Rattle.thread_words.specs.Opening.{instance_of, opening}

-- it goes on where it gets values of these types, the topmost first, and globals of their types
abbrev pub WaitsWith : Module → Function → List ValType → Invocation → Type 0
WaitsWith m f ts h = (globals : List Value) → types globals ≡ global_types (context m f) → WaitsFor (context m f) f.body.code ts (with_globals globals h.activation)

-- each caller waits for the results of the one above it, and the outermost one leaves the thread's results
abbrev pub CallersFit : Module → (results final_results : List ValType) → List Invocation → Type 0
CallersFit m results final_results [] = results ≡ final_results
CallersFit m results final_results (h ∷ callers) =
    (f : Function) × (function_at m h.function ≡ Some f) × WaitsWith m f (reverse results) h × CallersFit m f.kind.results final_results callers

abbrev pub OutcomeFits : List ValType → Outcome → Type 0
OutcomeFits results (outcome.Done None) = results ≡ []
OutcomeFits results (outcome.Done (Some v)) = results ≡ type_of v ∷ []
OutcomeFits results (outcome.Trapped trap) = Unit {0}
OutcomeFits results outcome.Running = ⊥
OutcomeFits results outcome.Waiting = ⊥

abbrev pub StateFits : Module → (results : List ValType) → State → Type 0
StateFits m results (Runs s) =
    (f : Function) × (function_at m s.top.function ≡ Some f) × ActivationFits (context m f) f.body.code s.top.activation × CallersFit m f.kind.results results s.callers
StateFits m results (Sleeps address time s) =
    (f : Function) × (function_at m s.top.function ≡ Some f) × WaitsFor (context m f) f.body.code (I32 ∷ []) s.top.activation × CallersFit m f.kind.results results s.callers
StateFits m results (Ends outcome) = OutcomeFits results outcome

abbrev pub MoveFits : Module → (results : List ValType) → Move → Type 0
MoveFits m results (Local after) = StateFits m results after
MoveFits m results (Ask action after) = (reply : Reply) → StateFits m results (after reply)
MoveFits m results (Asleep resume out after) = (reply : Reply) → StateFits m results (after reply)
MoveFits m results (Halted outcome) = OutcomeFits results outcome

-- an activation that fits a function of a well typed module has at most as many operands as there are instructions
-- before its place
abbrev pub OperandsAreFew : Type 0
OperandsAreFew = (m : Module) (function : ℕ) (f : Function) (a : Activation) → WellTyped m → function_at m function ≡ Some f
    → ActivationFits (context m f) f.body.code a → length a.stack ≤ a.place

-- a thread that fits a well typed module has a step, which leads to threads that fit
abbrev pub ThreadsAreSafe : Type 0
ThreadsAreSafe = (m : Module) (instance : Instance) (results : List ValType) (s : State) → WellTyped m → HasFunctions m instance
    → StateFits m results s → (x : Move) × (move m instance s ≡ Some x) × MoveFits m results x

-- the states that a thread reaches, whatever the memory replies
pub data Reaches (m : Module) (instance : Instance) (first : State) : State → Type 0 where
  Begins : Reaches m instance first first
  GoesOn : (a b : State) → Reaches m instance first a → move m instance a ≡ Some (Local b) → Reaches m instance first b
  IsAnswered : (a : State) (action : Action) (after : Reply → State) (reply : Reply) → Reaches m instance first a
      → move m instance a ≡ Some (Ask action after) → Reaches m instance first (after reply)
  Wakes : (a : State) (resume : Action) (out : Option Action) (after : Reply → State) (reply : Reply) → Reaches m instance first a
      → move m instance a ≡ Some (Asleep resume out after) → Reaches m instance first (after reply)

-- in a well typed module no thread of any exported function ever lacks a step, and one that is done leaves the results
-- of its function
abbrev pub ThreadsGoOn : Type 0
ThreadsGoOn = (m : Module) (profile : Profile) (thread function : ℕ) (f : Function) (arguments : List Value) (first s : State) → WellTyped m
    → function_at m function ≡ Some f → types arguments ≡ f.kind.params → opening m function arguments ≡ Some first
    → Reaches m (instance_of m profile thread) first s → (x : Move) × (move m (instance_of m profile thread) s ≡ Some x) × MoveFits m f.kind.results x
