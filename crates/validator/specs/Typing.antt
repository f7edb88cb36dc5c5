-- The typing rules, on sequences of instructions. WebAssembly Core 1.0, validation, instruction sequences. A stack of
-- types has its top first.
use Rattle.std.specs.Prelude.{◌≡◌, List, [], ◌∷◌, ◌++◌, reverse}
use Rattle.wasm_types.specs.declared.value.ValType.{ValType}
use Rattle.wasm_types.specs.declared.value.ValType.TheVariants.{I32}
use Rattle.wasm_types.specs.declared.instruction.Instr.{Instr}
use Rattle.wasm_types.specs.declared.instruction.Instr.TheVariants.{Plain}
use Rattle.wasm_types.specs.declared.instruction.Plain.TheVariants.{Else, End}
use Rattle.wasm_types.specs.declared.nesting.Enclosing.TheVariants.{FirstArm, Whole}
use Rattle.validator.specs.Context.{Context, inside, outermost}
use Rattle.validator.specs.Table.{Class, Fixed, Discards, Selects, Leaves, Enters, Turning, Ending, Wrong, class_of}

-- one instruction that isn't a block takes the types `a` and leaves the types `b`
abbrev pub Rule : Class → List ValType → List ValType → Type 0
Rule (Fixed takes gives) a b = (a ≡ reverse takes) × (b ≡ reverse gives)
Rule Discards a b = (t : ValType) × (a ≡ t ∷ []) × (b ≡ [])
Rule Selects a b = (t : ValType) × (a ≡ I32 ∷ t ∷ t ∷ []) × (b ≡ t ∷ [])
Rule (Leaves takes) a b = (rest : List ValType) × (a ≡ reverse takes ++ rest)
Rule (Enters takes enclosing label result) a b = ⊥
Rule Turning a b = ⊥
Rule Ending a b = ⊥
Rule Wrong a b = ⊥

-- from a stack of the types `a` the instructions lead to one of the types `z`
pub data Typed : Context → List Instr → List ValType → List ValType → Type 0 where
  Nothing : (c : Context) (a : List ValType) → Typed c [] a a
  Then : (c : Context) (i : Instr) (is : List Instr) (a b rest z : List ValType) → Rule (class_of c i) a b → Typed c is (b ++ rest) z
      → Typed c (i ∷ is) (a ++ rest) z
  -- a block or a loop
  Blocked : (c : Context) (i : Instr) (body is : List Instr) (takes label result rest z : List ValType) → class_of c i ≡ Enters takes Whole label result
      → Typed (inside label c) body [] result → Typed c is (result ++ rest) z → Typed c (i ∷ (body ++ (Plain End ∷ is))) (reverse takes ++ rest) z
  -- an `if` without an `else`
  Once : (c : Context) (i : Instr) (body is : List Instr) (takes label rest z : List ValType) → class_of c i ≡ Enters takes FirstArm label []
      → Typed (inside label c) body [] [] → Typed c is rest z → Typed c (i ∷ (body ++ (Plain End ∷ is))) (reverse takes ++ rest) z
  -- an `if` with an `else`
  Either : (c : Context) (i : Instr) (first second is : List Instr) (takes label result rest z : List ValType) → class_of c i ≡ Enters takes FirstArm label result
      → Typed (inside label c) first [] result → Typed (inside label c) second [] result → Typed c is (result ++ rest) z
      → Typed c (i ∷ (first ++ (Plain Else ∷ (second ++ (Plain End ∷ is))))) (reverse takes ++ rest) z

-- a function's instructions, the last `end` included, leave its result
abbrev pub FunctionTyped : Context → List Instr → Type 0
FunctionTyped c code = (body : List Instr) × (code ≡ body ++ Plain End ∷ []) × Typed (outermost c) body [] c.result
