-- An activation that fits a checked function has a step, which leads to activations that fit.
use Rattle.std.proofs.Common.{◌≡◌, ◌≤◌, List, [], ◌∷◌, Some, refl, ap, subst, drop, length, reverse, add-one, arith}
use Rattle.wasm_types.specs.declared.value.ValType.{ValType}
use Rattle.wasm_types.specs.declared.instruction.Instr.{Instr}
use Rattle.wasm_types.specs.declared.instruction.Instr.TheVariants as instr
use Rattle.wasm_types.specs.declared.instruction.Plain.TheVariants.{Unreachable, Nop, Else, End, Return, Discard, Select}
use Rattle.wasm_types.specs.declared.instruction.BlockKind.TheVariants.{Block, Loop, If}
use Rattle.wasm_types.specs.declared.instruction.IndexOp.TheVariants.{Branch, BranchIf, Call, LocalGet, LocalSet, LocalTee, GlobalGet, GlobalSet}
use Rattle.wasm_types.specs.declared.trap.Trap.TheVariants.{Unreachable as UnreachableTrap}
use Rattle.validator.specs.Context.{Context}
use Rattle.validator.specs.Walk.{Frame, walk, then_if, step}
use Rattle.validator.proofs.Sound.{there}
use Rattle.thread_words.specs.Instance.{Instance, HasFunctions}
use Rattle.thread_words.specs.Activation.{Activation}
use Rattle.thread_words.specs.Step.{Traps}
use Rattle.thread_words.specs.Fits.{Stands, Fits, StepsAreSafe}
use Rattle.thread_words.proofs.Frames.{drop_next, stands_on}
use Rattle.thread_words.proofs.SimpleSteps.{numeric_simple, const_simple, fence_simple, memory_simple, pages_simple, atomic_simple}
use Rattle.thread_words.proofs.Landing.{Typed}
use Rattle.thread_words.proofs.Steps.{Here, Goes, go_simple, go_nop, go_discard, go_select, go_local_get, go_local_set, go_local_tee, go_global_get, go_global_set}
use Rattle.thread_words.proofs.Jumps.{go_call, go_call_indirect, go_branch, go_return, go_branch_if, go_branch_table}
use Rattle.thread_words.proofs.TypedBlocks.{go_block, go_loop, go_if, go_end, go_else}

go_at : (m : Instance) (c : Context) (code : List Instr) (a : Activation) (i : Instr) (is : List Instr) (w : Frame) (ws gs : List Frame) → HasFunctions c.within m → Here c code a i is w ws gs → Goes m c code a (i ∷ is)
go_at m c code a (instr.Plain Unreachable) is w ws gs f h = (Traps UnreachableTrap, refl, tt)
go_at m c code a (instr.Plain Nop) is w ws gs f h = go_nop m c code a is w ws gs h
go_at m c code a (instr.Plain Else) is w ws gs f h = go_else m c code a is w ws gs h
go_at m c code a (instr.Plain End) is w ws gs f h = go_end m c code a is w ws gs h
go_at m c code a (instr.Plain Return) is w ws gs f h = go_return m c code a is w ws gs h
go_at m c code a (instr.Plain Discard) is w ws gs f h = go_discard m c code a is w ws gs h
go_at m c code a (instr.Plain Select) is w ws gs f h = go_select m c code a is w ws gs h
go_at m c code a (instr.Numeric n) is w ws gs f h = go_simple m c code a (instr.Numeric n) is w ws gs h refl (numeric_simple m c n)
go_at m c code a (instr.Block Block t) is w ws gs f h = go_block m c code a t is w ws gs h
go_at m c code a (instr.Block Loop t) is w ws gs f h = go_loop m c code a t is w ws gs h
go_at m c code a (instr.Block If t) is w ws gs f h = go_if m c code a t is w ws gs h
go_at m c code a (instr.Index Branch l) is w ws gs f h = go_branch m c code a l is w ws gs h
go_at m c code a (instr.Index BranchIf l) is w ws gs f h = go_branch_if m c code a l is w ws gs h
go_at m c code a (instr.Index Call x) is w ws gs f h = go_call m c code a x is w ws gs h
go_at m c code a (instr.Index LocalGet x) is w ws gs f h = go_local_get m c code a x is w ws gs h
go_at m c code a (instr.Index LocalSet x) is w ws gs f h = go_local_set m c code a x is w ws gs h
go_at m c code a (instr.Index LocalTee x) is w ws gs f h = go_local_tee m c code a x is w ws gs h
go_at m c code a (instr.Index GlobalGet x) is w ws gs f h = go_global_get m c code a x is w ws gs h
go_at m c code a (instr.Index GlobalSet x) is w ws gs f h = go_global_set m c code a x is w ws gs h
go_at m c code a (instr.BranchTable range default) is w ws gs f h = go_branch_table m c code a range default is w ws gs h
go_at m c code a (instr.CallIndirect x) is w ws gs f h = go_call_indirect m c code a x is w ws gs f h
go_at m c code a (instr.Memory op arg) is w ws gs f h = go_simple m c code a (instr.Memory op arg) is w ws gs h refl (memory_simple m c op arg w ws gs h.stepped)
go_at m c code a (instr.Pages op) is w ws gs f h = go_simple m c code a (instr.Pages op) is w ws gs h refl (pages_simple m c op w ws gs h.stepped)
go_at m c code a (instr.Const v) is w ws gs f h = go_simple m c code a (instr.Const v) is w ws gs h refl (const_simple m c v)
go_at m c code a (instr.Atomic op arg) is w ws gs f h = go_simple m c code a (instr.Atomic op arg) is w ws gs h refl (atomic_simple m c op arg w ws gs h.stepped)
go_at m c code a instr.Fence is w ws gs f h = go_simple m c code a instr.Fence is w ws gs h refl (fence_simple m c)

safe_at : (m : Instance) (c : Context) (code : List Instr) (a : Activation) (is : List Instr) (ws : List Frame) → HasFunctions c.within m → reverse c.result ≡ c.result → drop a.place code ≡ is → Typed c a
    → walk c is ws ≡ Some [] → Stands c code a.place ws → Fits c code a.stack a.labels ws → Goes m c code a is
safe_at m c code a is [] has short d tl h st f = absurd f
safe_at m c code a [] (w ∷ ws) has short d tl h st f = cc
safe_at m c code a (i ∷ is) (w ∷ ws) has short d tl h st f =
    let p = there (step c i (w ∷ ws)) (walk c is) [] h in
    let one : walk c (i ∷ []) (w ∷ ws) ≡ Some p.0 = ap (λ x. then_if x (walk c [])) p.1 in
    let next = subst (λ x. Stands c code x p.0) (add-one a.place) (stands_on c code (i ∷ is) a.place 1 (w ∷ ws) p.0 d st one) in
    go_at m c code a i is w ws p.0 has (record { typed = tl; here = d; behind_it = drop_next a.place code is i d; stepped = p.1; rest = next; fits = f; short = short })

-- one type is the same from both ends
pub one_again : (ts : List ValType) → length ts ≤ 1 → reverse ts ≡ ts
one_again [] h = refl
one_again (t ∷ []) h = refl
one_again (t ∷ u ∷ ts) h = absurd (omega (arith, h))

pub safe : StepsAreSafe
safe m c code a has one k = safe_at m c code a (drop a.place code) k.2 has (one_again c.result one) refl (k.0, k.1) k.3.1 k.3 k.4
