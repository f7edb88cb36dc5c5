-- How the open blocks stand at the end of a block, and behind its else.
use Rattle.std.specs.Prelude.{◌≡◌, ℕ, zero, suc, ◌+◌, ◌<◌, List, [], ◌∷◌, Some, None, take, length}
use Rattle.wasm_types.specs.declared.value.ValType.{ValType}
use Rattle.wasm_types.specs.declared.instruction.Instr.{Instr}
use Rattle.wasm_types.specs.declared.nesting.Enclosing.TheVariants.{FirstArm, Whole}
use Rattle.validator.specs.Targets.{end_from, else_from}
use Rattle.validator.specs.Context.{Context}
use Rattle.validator.specs.Walk.{Frame, walk, give, opened}

-- the block at this depth has this label and result, and these blocks are around it
abbrev pub Deep : ℕ → List Frame → List ValType → List ValType → List Frame → Type 0
Deep depth [] label result around = ⊥
Deep zero (f ∷ fs) label result around = (f.label ≡ label) × (f.result ≡ result) × (fs ≡ around)
Deep (suc depth) (f ∷ fs) label result around = Deep depth fs label result around

-- where the rest of a function is checked, each open block has its end, and the walk has left the block behind it
abbrev pub ReachesEnd : Type 0
ReachesEnd = (c : Context) (is : List Instr) (at depth : ℕ) (fs : List Frame) (label result : List ValType) (around : List Frame)
    → walk c is fs ≡ Some [] → Deep depth fs label result around
    → (k : ℕ) × (end_from at is depth ≡ Some (at + k)) × (k < length is) × (walk c (take (suc k) is) fs ≡ Some (give result around))

-- and behind its else the block begins anew
abbrev pub ReachesElse : Type 0
ReachesElse = (c : Context) (is : List Instr) (at depth : ℕ) (fs : List Frame) (label result : List ValType) (around : List Frame) (turn : ℕ)
    → walk c is fs ≡ Some [] → Deep depth fs label result around → else_from at is depth ≡ Some turn
    → (k : ℕ) × (turn ≡ at + k) × (k < length is) × (walk c (take (suc k) is) fs ≡ Some (opened Whole label result ∷ around))

-- the block at this depth is an if that may have an else, with this result
abbrev pub DeepIf : ℕ → List Frame → List ValType → Type 0
DeepIf depth [] result = ⊥
DeepIf zero (f ∷ fs) result = (f.enclosing ≡ FirstArm) × (f.result ≡ result)
DeepIf (suc depth) (f ∷ fs) result = DeepIf depth fs result

-- an if without an else leaves nothing
abbrev pub LeavesNothing : Type 0
LeavesNothing = (c : Context) (is : List Instr) (at depth : ℕ) (fs : List Frame) (result : List ValType)
    → walk c is fs ≡ Some [] → DeepIf depth fs result → else_from at is depth ≡ None → result ≡ []
