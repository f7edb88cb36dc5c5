-- Moves by an entry, and why one between blocks is not made.
use Rattle.std.proofs.Common.{◌≡◌, ℕ, Option, Some, None, refl, ap, subst, sym, ◌∙◌}
use Rattle.std.specs.Prelude.{IfNone}
use Rattle.wasm_types.specs.declared.value.ValType.{ValType}
use Rattle.wasm_types.specs.declared.instruction.Instr.{Instr}
use Rattle.wasm_types.specs.declared.modules.Module.{Module}
use Rattle.instruction_groups.specs.declared.group.Group.{Group}
use Rattle.instruction_groups.specs.declared.group.Group.TheVariants as group
use Rattle.instruction_groups.specs.Groups.{single_of}
use Rattle.thread_words.specs.declared.stacks.Stacks.{Stacks}
use Rattle.thread_words.specs.Moves.{CanStepIn, StepsIn}
use Rattle.integer_machine.specs.BlockMoves.{CanMoveBy, MovesBy, StaysHere}
use Rattle.integer_machine.specs.Rooms.{IsNoAccess}

pub both : (o : Option ℕ) (A B : Type 0) → IfNone o A → IfNone o B → IfNone o (A × B)
both None A B a b = (a, b)
both (Some x) A B a b = tt

pub always : (o : Option ℕ) (A : Type 0) → A → IfNone o A
always None A a = a
always (Some x) A a = tt

-- ---- by which entry it is

pub can_by_entry : (m : Module) (g h : Group) (i : Instr) (s : Stacks) → CanMoveBy m s g → g ≡ h → single_of h ≡ Some i → IsNoAccess i → CanStepIn m i s
can_by_entry m g h i s can e named n = can i (ap single_of e ∙ named) n

pub moves_by_entry : (m : Module) (g h : Group) (i : Instr) (old new : Stacks) → g ≡ h → single_of h ≡ Some i → IsNoAccess i → StepsIn m i old new → MovesBy m old g new
moves_by_entry m g h i old new e named n k = record { instruction = i; named = ap single_of e ∙ named; no_access = n; steps = k }

pub stays_by : (o : Option ℕ) (g h : Group) (s : Stacks) → g ≡ h → IfNone o (StaysHere h s) → IfNone o (StaysHere g s)
stays_by o g h s e k = subst (λ y. IfNone o (StaysHere y s)) (sym e) k

-- ---- an entry that is no move between blocks

pub record IsOther (g : Group) : Type 0 where
  pub no_block : (t : Option ValType) → g ≡ group.Block t → ⊥
  pub no_loop : (t : Option ValType) → g ≡ group.Loop t → ⊥
  pub no_if : (t : Option ValType) → g ≡ group.If t → ⊥
  pub no_else : g ≡ group.Else → ⊥
  pub no_end : g ≡ group.End → ⊥
  pub no_branch : (depth : ℕ) → g ≡ group.Branch depth → ⊥
  pub no_branch_if : (depth : ℕ) → g ≡ group.BranchIf depth → ⊥

pub other_entry : (g : Group) (s : Stacks) → IsOther g → StaysHere g s
other_entry (group.Block t) s k = absurd (k.no_block t refl)
other_entry (group.Loop t) s k = absurd (k.no_loop t refl)
other_entry (group.If t) s k = absurd (k.no_if t refl)
other_entry group.Else s k = absurd (k.no_else refl)
other_entry group.End s k = absurd (k.no_end refl)
other_entry (group.Branch depth) s k = absurd (k.no_branch depth refl)
other_entry (group.BranchIf depth) s k = absurd (k.no_branch_if depth refl)
other_entry _ s k = tt
