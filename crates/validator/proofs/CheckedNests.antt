-- What the check lets pass nests.
use Rattle.std.proofs.Common.{◌≡◌, Bool, true, List, [], ◌∷◌, ◌++◌, Some, refl, sym, ◌∙◌, ap, subst, reverse}
use Rattle.wasm_types.specs.declared.value.ValType.{ValType}
use Rattle.wasm_types.specs.declared.value.ValType.TheVariants.{I32}
use Rattle.wasm_types.specs.declared.instruction.Instr.{Instr}
use Rattle.wasm_types.specs.declared.nesting.Enclosing.{Enclosing}
use Rattle.wasm_types.specs.declared.nesting.Enclosing.TheVariants.{FirstArm, Whole}
use Rattle.validator.specs.Context.{Context}
use Rattle.validator.specs.Table.{Class, Fixed, Discards, Selects, Leaves, Enters, Turning, Ending, Wrong, class_of}
use Rattle.validator.specs.Walk.{Frame, with_stack, made_unreachable, opened, pop_one, pop_all, pop_any, known, give, may_turn, select_by, step_by, at_frames, step, walk, Checked}
use Rattle.wasm_types.specs.declared.nesting.Nesting.{Nesting}
use Rattle.wasm_types.specs.declared.nesting.Nesting.TheVariants.{Turns, Closes, Stays}
use Rattle.validator.proofs.ClassNesting.{nests, nesting_class}
use Rattle.validator.proofs.Sound.{there, allowed, both_true}
use Rattle.wasm_types.specs.Nesting.{closes, closes_by, Nests}

-- what encloses the place, the innermost block first
abbrev enclosings : List Frame → List Enclosing
enclosings [] = []
enclosings (f ∷ fs) = f.enclosing ∷ enclosings fs

given : (ts : List ValType) (fs : List Frame) → enclosings (give ts fs) ≡ enclosings fs
given ts [] = refl
given ts (f ∷ fs) = refl

turns : (e : Enclosing) → may_turn e ≡ true → e ≡ FirstArm
turns Whole h = cc
turns FirstArm h = refl

ends : (e : Enclosing) (es : List Enclosing) (later : List Enclosing → Bool) → closes_by Closes later (e ∷ es) ≡ later es
ends Whole es later = refl
ends FirstArm es later = refl

stays : (n : Nesting) (e : Enclosing) (es : List Enclosing) (later : List Enclosing → Bool) → n ≡ Stays → closes_by n later (e ∷ es) ≡ later (e ∷ es)
stays n e es later q = subst (λ x. closes_by x later (e ∷ es) ≡ later (e ∷ es)) (sym q) refl

-- one step leads from what encloses a place to what encloses the next
stepped : (cl : Class) (f : Frame) (fs gs : List Frame) (later : List Enclosing → Bool) → step_by cl f fs ≡ Some gs
    → closes_by (nests cl) later (f.enclosing ∷ enclosings fs) ≡ later (enclosings gs)
stepped (Fixed takes gives) f fs gs later h =
    let p = there (pop_all f.unreachable (reverse takes) f.stack) _ gs h in
    let q : with_stack (known (reverse gives) ++ p.0) f ∷ fs ≡ gs = cc in
    ap (λ x. later (enclosings x)) q
stepped Discards f fs gs later h =
    let p = there (pop_any f.unreachable f.stack) _ gs h in
    let q : with_stack p.0.1 f ∷ fs ≡ gs = cc in
    ap (λ x. later (enclosings x)) q
stepped Selects f fs gs later h =
    let p = there (pop_one f.unreachable I32 f.stack) _ gs h in
    let r = there (select_by f.unreachable p.0) _ gs p.2 in
    let q : with_stack r.0 f ∷ fs ≡ gs = cc in
    ap (λ x. later (enclosings x)) q
stepped (Leaves takes) f fs gs later h =
    let p = there (pop_all f.unreachable (reverse takes) f.stack) _ gs h in
    let q : made_unreachable f ∷ fs ≡ gs = cc in
    ap (λ x. later (enclosings x)) q
stepped (Enters takes Whole label result) f fs gs later h =
    let p = there (pop_all f.unreachable (reverse takes) f.stack) _ gs h in
    let q : opened Whole label result ∷ with_stack p.0 f ∷ fs ≡ gs = cc in
    ap (λ x. later (enclosings x)) q
stepped (Enters takes FirstArm label result) f fs gs later h =
    let p = there (pop_all f.unreachable (reverse takes) f.stack) _ gs h in
    let q : opened FirstArm label result ∷ with_stack p.0 f ∷ fs ≡ gs = cc in
    ap (λ x. later (enclosings x)) q
stepped Turning f fs gs later h =
    let p = allowed _ (opened Whole f.label f.result ∷ fs) gs h in
    let e = turns f.enclosing (both_true _ _ p.0).0 in
    ap (λ x. closes_by Turns later (x ∷ enclosings fs)) e ∙ ap (λ x. later (enclosings x)) p.1
stepped Ending f fs gs later h =
    let p = allowed _ (give f.result fs) gs h in
    ends f.enclosing (enclosings fs) later ∙ ap later (sym (given f.result fs)) ∙ ap (λ x. later (enclosings x)) p.1
stepped Wrong f fs gs later h = cc

nested : (c : Context) (is : List Instr) (fs : List Frame) → walk c is fs ≡ Some [] → closes is (enclosings fs) ≡ true
nested c [] [] h = refl
nested c [] (f ∷ fs) h = cc
nested c (i ∷ is) [] h = cc
nested c (i ∷ is) (f ∷ fs) h =
    let p = there (step c i (f ∷ fs)) (walk c is) [] h in
    let n = nesting_class (at_frames c (f ∷ fs)) i in
    ap (λ x. closes_by x (closes is) (f.enclosing ∷ enclosings fs)) n
    ∙ stepped (class_of (at_frames c (f ∷ fs)) i) f fs p.0 (closes is) p.1
    ∙ nested c is p.0 p.2

pub checked_nests : (c : Context) (code : List Instr) → Checked c code → Nests code
checked_nests c code h = nested c code (opened Whole c.result c.result ∷ []) h
