-- An activation fits a checked function: the check stands at its place with the very types of its operands.
use Rattle.std.specs.Prelude.{◌≡◌, ℤ, ℕ, suc, false, ◌≤◌, List, [], ◌∷◌, ◌++◌, Option, Some, drop, take, length, reverse, map}
use Rattle.wasm_types.specs.declared.value.Value.{Value}
use Rattle.wasm_types.specs.declared.value.ValType.{ValType}
use Rattle.wasm_types.specs.declared.value.ValType.TheVariants.{I32}
use Rattle.wasm_types.specs.declared.operation.Action.{Action}
use Rattle.wasm_types.specs.declared.modules.FuncType.{FuncType}
use Rattle.wasm_types.specs.declared.instruction.Instr.{Instr}
use Rattle.wasm_types.specs.declared.instruction.Instr.TheVariants as instr
use Rattle.wasm_types.specs.declared.instruction.BlockKind.{BlockKind}
use Rattle.wasm_types.specs.declared.instruction.BlockKind.TheVariants.{Block, Loop, If}
use Rattle.wasm_types.specs.declared.nesting.Enclosing.TheVariants.{Whole}
use Rattle.validator.specs.Targets.{end_from}
use Rattle.wasm_types.specs.Values.{type_of}
use Rattle.validator.specs.Context.{Context, function_type}
use Rattle.validator.specs.Table.{seq}
use Rattle.validator.specs.Typing.{FunctionTyped}
use Rattle.validator.specs.Walk.{Frame, walk, give, opened, known, start}
use Rattle.thread_words.specs.Instance.{Instance, HasFunctions}
use Rattle.thread_words.specs.Activation.{Label, Activation, at_place, with_globals, types}
use Rattle.thread_words.specs.Step.{Next, Stays, Calls, Returns, Traps, Asks, AsksToWait, act}

-- at this place of a checked function these blocks are open
abbrev pub Stands : Context → List Instr → ℕ → List Frame → Type 0
Stands c code place ws = (walk c (take place code) (start c) ≡ Some ws) × (walk c (drop place code) ws ≡ Some [])

-- behind a block's end the check stands with the block's label on the operands around it
abbrev pub LandsBehind : Context → List Instr → ℕ → Option ValType → List Instr → List ValType → List Frame → Type 0
LandsBehind c code opener t is label around =
    (label ≡ seq t) × (e : ℕ) × (end_from (suc opener) is 0 ≡ Some e) × Stands c code (suc e) (give label around)

abbrev pub LandsBy : Context → List Instr → ℕ → BlockKind → Option ValType → List Instr → List ValType → List ValType → List Frame → Type 0
LandsBy c code opener Block t is label result around = LandsBehind c code opener t is label around
LandsBy c code opener If t is label result around = LandsBehind c code opener t is label around
LandsBy c code opener Loop t is label result around = (label ≡ []) × Stands c code (suc opener) (opened Whole [] result ∷ around)

-- where a branch to a block leads
abbrev pub LandsIn : Context → List Instr → ℕ → List Instr → List ValType → List ValType → List Frame → Type 0
LandsIn c code opener (instr.Block kind t ∷ is) label result around = LandsBy c code opener kind t is label result around
LandsIn c code opener _ label result around = ⊥

-- the operands and labels have the shape of the open blocks of the check
abbrev pub Fits : Context → List Instr → List Value → List Label → List Frame → Type 0
Fits c code vs ls [] = ⊥
Fits c code vs [] (w ∷ v ∷ ws) = ⊥
Fits c code vs [] (w ∷ []) = (w.unreachable ≡ false) × (w.stack ≡ known (types vs)) × (w.result ≡ c.result) × (w.label ≡ c.result) × (w.enclosing ≡ Whole)
Fits c code vs (l ∷ ls) (w ∷ ws) =
    (top below : List Value) × (vs ≡ top ++ below) × (length below ≡ l.height) × (w.unreachable ≡ false) × (w.stack ≡ known (types top))
    × LandsIn c code l.opener (drop l.opener code) w.label w.result ws × Fits c code below ls ws

-- the globals have their types
abbrev pub global_types : Context → List ValType
global_types c = map (λ g. g.val_type) c.within.globals

abbrev pub ActivationFits : Context → List Instr → Activation → Type 0
ActivationFits c code a =
    (types a.locals ≡ c.locals) × (types a.globals ≡ global_types c) × (ws : List Frame) × Stands c code a.place ws × Fits c code a.stack a.labels ws

-- an activation that waits for operands of these types, the topmost first, fits once it has them
abbrev pub WaitsFor : Context → List Instr → List ValType → Activation → Type 0
WaitsFor c code ts a = (vs : List Value) → types vs ≡ ts → ActivationFits c code (at_place a.place (vs ++ a.stack) a.labels a)

abbrev pub Good : Context → List Instr → Next → Type 0
Good c code (Stays a) = ActivationFits c code a
Good c code (Calls f arguments a) =
    (kind : FuncType) × (function_type c.within f ≡ Some kind) × (types arguments ≡ kind.params) × WaitsFor c code (reverse kind.results) a
Good c code (Returns vs) = types vs ≡ c.result
Good c code (Traps trap) = Unit {0}
Good c code (Asks action replies a) = WaitsFor c code (reverse replies) a
Good c code (AsksToWait action time a) = WaitsFor c code (I32 ∷ []) a

-- an activation that fits has a step, which leads to activations that fit
abbrev pub StepsAreSafe : Type 0
StepsAreSafe = (m : Instance) (c : Context) (code : List Instr) (a : Activation) → HasFunctions c.within m → length c.result ≤ 1
    → ActivationFits c code a → (n : Next) × (act m c code a ≡ Some n) × Good c code n

-- as a function is entered
abbrev pub entry : List Value → List Value → Activation
entry locals globals = record { place = 0; locals = locals; globals = globals; stack = []; labels = [] }

-- activations that are reached within one function, where calls and the memory answer values of their types, and
-- globals keep theirs while others run
pub data Reached (m : Instance) (c : Context) (code : List Instr) : Activation → Type 0 where
  Enters : (locals globals : List Value) → types locals ≡ c.locals → types globals ≡ global_types c → Reached m c code (entry locals globals)
  GoesOn : (a b : Activation) → Reached m c code a → act m c code a ≡ Some (Stays b) → Reached m c code b
  IsAnswered : (a b : Activation) (action : Action) (replies : List ValType) (vs : List Value) → Reached m c code a
      → act m c code a ≡ Some (Asks action replies b) → types vs ≡ reverse replies → Reached m c code (at_place b.place (vs ++ b.stack) b.labels b)
  IsWoken : (a b : Activation) (action : Action) (time : ℤ) (v : Value) → Reached m c code a
      → act m c code a ≡ Some (AsksToWait action time b) → type_of v ≡ I32 → Reached m c code (at_place b.place (v ∷ b.stack) b.labels b)
  IsReturnedTo : (a b : Activation) (f : ℕ) (arguments vs globals : List Value) (kind : FuncType) → Reached m c code a
      → act m c code a ≡ Some (Calls f arguments b) → function_type c.within f ≡ Some kind → types vs ≡ reverse kind.results
      → types globals ≡ global_types c → Reached m c code (with_globals globals (at_place b.place (vs ++ b.stack) b.labels b))

-- in a well typed function no activation that is reached lacks a step: no operand, label, place or function is missing
abbrev pub NeverStuck : Type 0
NeverStuck = (m : Instance) (c : Context) (code : List Instr) (a : Activation) → HasFunctions c.within m → length c.result ≤ 1
    → FunctionTyped c code → Reached m c code a → (n : Next) × (act m c code a ≡ Some n)
