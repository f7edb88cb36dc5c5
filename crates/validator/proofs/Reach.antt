use Rattle.std.proofs.Common.{◌≡◌, ℕ, zero, suc, ◌+◌, ◌<◌, true, List, [], ◌∷◌, ◌++◌, Option, Some, None, refl, sym, ◌∙◌, ap, subst, reverse, take, length, arith, add-zero, ◌⊎◌, inl, inr}
use Rattle.wasm_types.specs.declared.value.ValType.{ValType}
use Rattle.wasm_types.specs.declared.value.ValType.TheVariants.{I32}
use Rattle.wasm_types.specs.declared.instruction.Instr.{Instr}
use Rattle.wasm_types.specs.declared.nesting.Enclosing.{Enclosing}
use Rattle.wasm_types.specs.declared.nesting.Enclosing.TheVariants.{FirstArm, Whole}
use Rattle.validator.specs.Context.{Context}
use Rattle.validator.specs.Table.{Class, Fixed, Discards, Selects, Leaves, Enters, Turning, Ending, Wrong, class_of}
use Rattle.validator.specs.Walk.{Frame, with_stack, made_unreachable, opened, pop_one, pop_all, pop_any, known, give, may_end, select_by, step_by, at_frames, step, walk}
-- The walk from a place in a block to the block's end and else.

use Rattle.wasm_types.specs.declared.nesting.Nesting.{Nesting}
use Rattle.wasm_types.specs.Nesting.{nesting_of}
use Rattle.validator.specs.Targets.{end_from, end_by, else_from, else_by}
use Rattle.validator.specs.Reach.{Deep, DeepIf, ReachesEnd, ReachesElse, LeavesNothing}
use Rattle.validator.proofs.ClassNesting.{nests, nesting_class}
use Rattle.validator.proofs.Sound.{there, allowed, both_true}

deep_give : (depth : ℕ) (ts : List ValType) (fs : List Frame) (label result : List ValType) (around : List Frame) → Deep depth fs label result around → Deep depth (give ts fs) label result around
deep_give depth ts [] label result around d = d
deep_give zero ts (f ∷ fs) label result around d = d
deep_give (suc depth) ts (f ∷ fs) label result around d = d

-- one step keeps the blocks around, or closes the block at depth 0
data Moved (c : Context) (at : ℕ) (label result : List ValType) (around : List Frame) (gs : List Frame) (ends elses : ℕ → Option ℕ) (n : Nesting) (depth : ℕ) : Type 0 where
  On : (later : ℕ) → Deep later gs label result around → end_by n at ends depth ≡ ends later → (else_by n at elses depth ≡ elses later) → Moved c at label result around gs ends elses n depth
  Turned : Deep depth gs label result around → end_by n at ends depth ≡ ends depth → else_by n at elses depth ≡ Some at → gs ≡ opened Whole label result ∷ around → Moved c at label result around gs ends elses n depth
  Over : gs ≡ give result around → end_by n at ends depth ≡ Some at → else_by n at elses depth ≡ None → Moved c at label result around gs ends elses n depth

-- the frame on top is another, of the same label and result
deep_top : (depth : ℕ) (f g : Frame) (fs : List Frame) (label result : List ValType) (around : List Frame) → g.label ≡ f.label → g.result ≡ f.result → Deep depth (f ∷ fs) label result around → Deep depth (g ∷ fs) label result around
deep_top zero f g fs label result around a b d = (a ∙ d.0, b ∙ d.1, d.2)
deep_top (suc depth) f g fs label result around a b d = d

moved : (c : Context) (at : ℕ) (label result : List ValType) (around : List Frame) (ends elses : ℕ → Option ℕ) (cl : Class) (f : Frame) (fs gs : List Frame) (depth : ℕ)
    → step_by cl f fs ≡ Some gs → Deep depth (f ∷ fs) label result around → Moved c at label result around gs ends elses (nests cl) depth
moved c at label result around ends elses (Fixed takes gives) f fs gs depth h d =
    let p = there (pop_all f.unreachable (reverse takes) f.stack) _ gs h in
    let q : with_stack (known (reverse gives) ++ p.0) f ∷ fs ≡ gs = cc in
    On depth (subst (λ x. Deep depth x label result around) q (deep_top depth f (with_stack (known (reverse gives) ++ p.0) f) fs label result around refl refl d)) refl refl
moved c at label result around ends elses Discards f fs gs depth h d =
    let p = there (pop_any f.unreachable f.stack) _ gs h in
    let q : with_stack p.0.1 f ∷ fs ≡ gs = cc in
    On depth (subst (λ x. Deep depth x label result around) q (deep_top depth f (with_stack p.0.1 f) fs label result around refl refl d)) refl refl
moved c at label result around ends elses Selects f fs gs depth h d =
    let p = there (pop_one f.unreachable I32 f.stack) _ gs h in
    let r = there (select_by f.unreachable p.0) _ gs p.2 in
    let q : with_stack r.0 f ∷ fs ≡ gs = cc in
    On depth (subst (λ x. Deep depth x label result around) q (deep_top depth f (with_stack r.0 f) fs label result around refl refl d)) refl refl
moved c at label result around ends elses (Leaves takes) f fs gs depth h d =
    let p = there (pop_all f.unreachable (reverse takes) f.stack) _ gs h in
    let q : made_unreachable f ∷ fs ≡ gs = cc in
    On depth (subst (λ x. Deep depth x label result around) q (deep_top depth f (made_unreachable f) fs label result around refl refl d)) refl refl
moved c at label result around ends elses (Enters takes Whole l r) f fs gs depth h d =
    let p = there (pop_all f.unreachable (reverse takes) f.stack) _ gs h in
    let q : opened Whole l r ∷ with_stack p.0 f ∷ fs ≡ gs = cc in
    On (suc depth) (subst (λ x. Deep (suc depth) x label result around) q (deep_top depth f (with_stack p.0 f) fs label result around refl refl d)) refl refl
moved c at label result around ends elses (Enters takes FirstArm l r) f fs gs depth h d =
    let p = there (pop_all f.unreachable (reverse takes) f.stack) _ gs h in
    let q : opened FirstArm l r ∷ with_stack p.0 f ∷ fs ≡ gs = cc in
    On (suc depth) (subst (λ x. Deep (suc depth) x label result around) q (deep_top depth f (with_stack p.0 f) fs label result around refl refl d)) refl refl
moved c at label result around ends elses Turning f fs gs zero h d =
    let p = allowed _ (opened Whole f.label f.result ∷ fs) gs h in
    Turned (subst (λ x. Deep zero x label result around) p.1 d) refl refl (sym p.1 ∙ (rw (d.0, d.1, d.2) refl))
moved c at label result around ends elses Turning f fs gs (suc depth) h d =
    let p = allowed _ (opened Whole f.label f.result ∷ fs) gs h in
    On (suc depth) (subst (λ x. Deep (suc depth) x label result around) p.1 d) refl refl
moved c at label result around ends elses Ending f fs gs zero h d =
    let p = allowed _ (give f.result fs) gs h in
    Over (sym p.1 ∙ (rw (d.1, d.2) refl)) refl refl
moved c at label result around ends elses Ending f fs gs (suc depth) h d =
    let p = allowed _ (give f.result fs) gs h in
    On depth (subst (λ x. Deep depth x label result around) p.1 (deep_give depth f.result fs label result around d)) refl refl
moved c at label result around ends elses Wrong f fs gs depth h d = cc

-- the walk by one more instruction
more : (c : Context) (i : Instr) (is : List Instr) (fs gs : List Frame) (o : Option (List Frame)) → step c i fs ≡ Some gs → walk c is gs ≡ o → walk c (i ∷ is) fs ≡ o
more c i is fs gs o h k = rw h k

ends : (c : Context) (is : List Instr) (at depth : ℕ) (fs : List Frame) (label result : List ValType) (around : List Frame)
    → walk c is fs ≡ Some [] → Deep depth fs label result around
    → (k : ℕ) × (end_from at is depth ≡ Some (at + k)) × (k < length is) × (walk c (take (suc k) is) fs ≡ Some (give result around))
ends c [] at depth [] label result around h d = absurd d
ends c [] at depth (f ∷ fs) label result around h d = cc
ends c (i ∷ is) at depth [] label result around h d = absurd d
ends c (i ∷ is) at depth (f ∷ fs) label result around h d =
    let p = there (step c i (f ∷ fs)) (walk c is) [] h in
    let n = nesting_class (at_frames c (f ∷ fs)) i in
    ended p.0 p.1 (λ depth2 dd. ends c is (suc at) depth2 p.0 label result around p.2 dd) n
    (moved c at label result around (end_from (suc at) is) (else_from (suc at) is) (class_of (at_frames c (f ∷ fs)) i) f fs p.0 depth p.1 d)
  where
    ended : (gs : List Frame) → step c i (f ∷ fs) ≡ Some gs
        → ((depth2 : ℕ) → Deep depth2 gs label result around → (k : ℕ) × (end_from (suc at) is depth2 ≡ Some (suc at + k)) × (k < length is) × (walk c (take (suc k) is) gs ≡ Some (give result around)))
        → nesting_of i ≡ nests (class_of (at_frames c (f ∷ fs)) i)
        → Moved c at label result around gs (end_from (suc at) is) (else_from (suc at) is) (nests (class_of (at_frames c (f ∷ fs)) i)) depth
        → (k : ℕ) × (end_from at (i ∷ is) depth ≡ Some (at + k)) × (k < length (i ∷ is)) × (walk c (take (suc k) (i ∷ is)) (f ∷ fs) ≡ Some (give result around))
    ended gs st ih n (On later dd e e2) =
        let r = ih later dd in
        let s : suc at + r.0 ≡ at + suc r.0 = omega arith in
        (suc r.0, rw (n, ← s) (e ∙ r.1), omega arith, more c i (take (suc r.0) is) (f ∷ fs) gs _ st r.3)
    ended gs st ih n (Turned dd e e2 e3) =
        let r = ih depth dd in
        let s : suc at + r.0 ≡ at + suc r.0 = omega arith in
        (suc r.0, rw (n, ← s) (e ∙ r.1), omega arith, more c i (take (suc r.0) is) (f ∷ fs) gs _ st r.3)
    ended gs st ih n (Over g e e2) = (0, rw (n, add-zero) e, omega arith, more c i [] (f ∷ fs) gs _ st (ap Some g))

pub reaches_end : ReachesEnd
reaches_end = ends

elses : (c : Context) (is : List Instr) (at depth : ℕ) (fs : List Frame) (label result : List ValType) (around : List Frame) (turn : ℕ)
    → walk c is fs ≡ Some [] → Deep depth fs label result around → else_from at is depth ≡ Some turn
    → (k : ℕ) × (turn ≡ at + k) × (k < length is) × (walk c (take (suc k) is) fs ≡ Some (opened Whole label result ∷ around))
elses c [] at depth fs label result around turn h d t = cc
elses c (i ∷ is) at depth [] label result around turn h d t = absurd d
elses c (i ∷ is) at depth (f ∷ fs) label result around turn h d t =
    let p = there (step c i (f ∷ fs)) (walk c is) [] h in
    let n = nesting_class (at_frames c (f ∷ fs)) i in
    turned p.0 p.1 (λ depth2 dd t2. elses c is (suc at) depth2 p.0 label result around turn p.2 dd t2) n
    (moved c at label result around (end_from (suc at) is) (else_from (suc at) is) (class_of (at_frames c (f ∷ fs)) i) f fs p.0 depth p.1 d)
  where
    turned : (gs : List Frame) → step c i (f ∷ fs) ≡ Some gs
        → ((depth2 : ℕ) → Deep depth2 gs label result around → else_from (suc at) is depth2 ≡ Some turn → (k : ℕ) × (turn ≡ suc at + k) × (k < length is) × (walk c (take (suc k) is) gs ≡ Some (opened Whole label result ∷ around)))
        → nesting_of i ≡ nests (class_of (at_frames c (f ∷ fs)) i)
        → Moved c at label result around gs (end_from (suc at) is) (else_from (suc at) is) (nests (class_of (at_frames c (f ∷ fs)) i)) depth
        → (k : ℕ) × (turn ≡ at + k) × (k < length (i ∷ is)) × (walk c (take (suc k) (i ∷ is)) (f ∷ fs) ≡ Some (opened Whole label result ∷ around))
    turned gs st ih n (On later dd e e2) =
        let r = ih later dd (sym e2 ∙ rw (← n) t) in
        (suc r.0, omega arith, omega arith, more c i (take (suc r.0) is) (f ∷ fs) gs _ st r.3)
    turned gs st ih n (Turned dd e e2 e3) =
        let s : Some turn ≡ Some at = sym t ∙ (rw n e2) in
        let s2 : turn ≡ at = cc in
        (0, omega arith, omega arith, more c i [] (f ∷ fs) gs _ st (ap Some e3))
    turned gs st ih n (Over g e e2) = let s : Some turn ≡ None = sym t ∙ (rw n e2) in cc

pub reaches_else : ReachesElse
reaches_else = elses

if_top : (depth : ℕ) (f g : Frame) (fs : List Frame) (result : List ValType) → g.enclosing ≡ f.enclosing → g.result ≡ f.result → DeepIf depth (f ∷ fs) result → DeepIf depth (g ∷ fs) result
if_top zero f g fs result a b d = (a ∙ d.0, b ∙ d.1)
if_top (suc depth) f g fs result a b d = d

if_give : (depth : ℕ) (ts : List ValType) (fs : List Frame) (result : List ValType) → DeepIf depth fs result → DeepIf depth (give ts fs) result
if_give depth ts [] result d = d
if_give zero ts (f ∷ fs) result d = d
if_give (suc depth) ts (f ∷ fs) result d = d

ends_empty : (enclosing : Enclosing) (ts : List ValType) → enclosing ≡ FirstArm → may_end enclosing ts ≡ true → ts ≡ []
ends_empty Whole ts e m = cc
ends_empty FirstArm [] e m = refl
ends_empty FirstArm (t ∷ ts) e m = cc

if_kept : (at : ℕ) (cl : Class) (f : Frame) (fs gs : List Frame) (depth : ℕ) (result : List ValType) (later : ℕ → Option ℕ) → step_by cl f fs ≡ Some gs → DeepIf depth (f ∷ fs) result
    → else_by (nests cl) at later depth ≡ None → (result ≡ []) ⊎ ((next : ℕ) × DeepIf next gs result × (later next ≡ None))
if_kept at (Fixed takes gives) f fs gs depth result later h d e =
    let p = there (pop_all f.unreachable (reverse takes) f.stack) _ gs h in
    let q : with_stack (known (reverse gives) ++ p.0) f ∷ fs ≡ gs = cc in
    inr (depth, subst (λ x. DeepIf depth x result) q (if_top depth f (with_stack (known (reverse gives) ++ p.0) f) fs result refl refl d), e)
if_kept at Discards f fs gs depth result later h d e =
    let p = there (pop_any f.unreachable f.stack) _ gs h in
    let q : with_stack p.0.1 f ∷ fs ≡ gs = cc in
    inr (depth, subst (λ x. DeepIf depth x result) q (if_top depth f (with_stack p.0.1 f) fs result refl refl d), e)
if_kept at Selects f fs gs depth result later h d e =
    let p = there (pop_one f.unreachable I32 f.stack) _ gs h in
    let r = there (select_by f.unreachable p.0) _ gs p.2 in
    let q : with_stack r.0 f ∷ fs ≡ gs = cc in
    inr (depth, subst (λ x. DeepIf depth x result) q (if_top depth f (with_stack r.0 f) fs result refl refl d), e)
if_kept at (Leaves takes) f fs gs depth result later h d e =
    let p = there (pop_all f.unreachable (reverse takes) f.stack) _ gs h in
    let q : made_unreachable f ∷ fs ≡ gs = cc in
    inr (depth, subst (λ x. DeepIf depth x result) q (if_top depth f (made_unreachable f) fs result refl refl d), e)
if_kept at (Enters takes Whole l r) f fs gs depth result later h d e =
    let p = there (pop_all f.unreachable (reverse takes) f.stack) _ gs h in
    let q : opened Whole l r ∷ with_stack p.0 f ∷ fs ≡ gs = cc in
    inr (suc depth, subst (λ x. DeepIf (suc depth) x result) q (if_top depth f (with_stack p.0 f) fs result refl refl d), e)
if_kept at (Enters takes FirstArm l r) f fs gs depth result later h d e =
    let p = there (pop_all f.unreachable (reverse takes) f.stack) _ gs h in
    let q : opened FirstArm l r ∷ with_stack p.0 f ∷ fs ≡ gs = cc in
    inr (suc depth, subst (λ x. DeepIf (suc depth) x result) q (if_top depth f (with_stack p.0 f) fs result refl refl d), e)
if_kept at Turning f fs gs zero result later h d e = cc
if_kept at Turning f fs gs (suc depth) result later h d e =
    let p = allowed _ (opened Whole f.label f.result ∷ fs) gs h in
    inr (suc depth, subst (λ x. DeepIf (suc depth) x result) p.1 d, e)
if_kept at Ending f fs gs zero result later h d e =
    let p = allowed _ (give f.result fs) gs h in
    inl (sym d.1 ∙ ends_empty f.enclosing f.result d.0 (both_true _ _ p.0).0)
if_kept at Ending f fs gs (suc depth) result later h d e =
    let p = allowed _ (give f.result fs) gs h in
    inr (depth, subst (λ x. DeepIf depth x result) p.1 (if_give depth f.result fs result d), e)
if_kept at Wrong f fs gs depth result later h d e = cc

pub leaves_nothing : LeavesNothing
leaves_nothing = nothing
  where
    nothing : (c : Context) (is : List Instr) (at depth : ℕ) (fs : List Frame) (result : List ValType) → walk c is fs ≡ Some [] → DeepIf depth fs result → else_from at is depth ≡ None → result ≡ []
    nothing c [] at depth [] result h d e = absurd d
    nothing c [] at depth (f ∷ fs) result h d e = cc
    nothing c (i ∷ is) at depth [] result h d e = absurd d
    nothing c (i ∷ is) at depth (f ∷ fs) result h d e =
        let p = there (step c i (f ∷ fs)) (walk c is) [] h in
        let n = nesting_class (at_frames c (f ∷ fs)) i in
        by_kept p.0 (λ depth2 dd e2. nothing c is (suc at) depth2 p.0 result p.2 dd e2)
        (if_kept at (class_of (at_frames c (f ∷ fs)) i) f fs p.0 depth result (else_from (suc at) is) p.1 d (rw (← n) e))
      where
        by_kept : (gs : List Frame) → ((depth2 : ℕ) → DeepIf depth2 gs result → else_from (suc at) is depth2 ≡ None → result ≡ [])
            → (result ≡ []) ⊎ ((next : ℕ) × DeepIf next gs result × (else_from (suc at) is next ≡ None)) → result ≡ []
        by_kept gs k (inl q) = q
        by_kept gs k (inr q) = k q.0 q.1 q.2
