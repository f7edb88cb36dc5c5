-- The check as far as a place.
use Rattle.std.proofs.Common.{◌≡◌, ℕ, zero, suc, ◌+◌, ◌<◌, ◌≤◌, Bool, false, List, [], ◌∷◌, ◌++◌, Option, Some, None, refl, sym, ◌∙◌, ap, subst, take, drop, length, get_or, arith}
use Rattle.std.specs.Prelude.{slice_get}
use Rattle.std.proofs.lemmas.List.{take-append-drop}
use Rattle.std.proofs.lemmas.Option.{slice_get_past, slice_get-get_or}
use Rattle.std.proofs.Math.Seq.{take-suc}
use Rattle.wasm_types.specs.declared.instruction.Instr.{Instr}
use Rattle.validator.specs.declared.stacks.TypeStacks.{TypeStacks}
use Rattle.validator.specs.Context.{Context}
use Rattle.validator.specs.Table.{class_of}
use Rattle.validator.specs.Walk.{Frame, then_if, start, step, walk, Checked, at_frames}
use Rattle.validator.specs.Faults.{CannotGoOn, FirstFault}
use Rattle.validator.specs.Standing.{Stand, Goes, Stops, no_frame}

-- the check has come to this place, and the stacks have its frames
abbrev pub Reached : Context → List Instr → ℕ → TypeStacks → Type 0
Reached c code at s = (fs : List Frame) × (walk c (take at code) (start c) ≡ Some fs) × Stand fs s

walk_append : (c : Context) (is js : List Instr) (fs : List Frame) → walk c (is ++ js) fs ≡ then_if (walk c is fs) (walk c js)
walk_append c [] js fs = refl
walk_append c (i ∷ is) js fs = by (λ gs. walk_append c is js gs) (step c i fs)
  where
    by : ((gs : List Frame) → walk c (is ++ js) gs ≡ then_if (walk c is gs) (walk c js)) → (o : Option (List Frame))
        → then_if o (walk c (is ++ js)) ≡ then_if (then_if o (walk c is)) (walk c js)
    by k None = refl
    by k (Some gs) = k gs

walk_one : (c : Context) (i : Instr) (fs : List Frame) → walk c (i ∷ []) fs ≡ step c i fs
walk_one c i fs = by (step c i fs)
  where
    by : (o : Option (List Frame)) → then_if o (walk c []) ≡ o
    by None = refl
    by (Some gs) = refl

walk_next : (c : Context) (code : List Instr) (at : ℕ) (d : Instr) (s fs : List Frame) → at < length code → walk c (take at code) s ≡ Some fs → walk c (take (suc at) code) s ≡ step c (get_or code at d) fs
walk_next c code at d s fs l h =
    ap (λ x. walk c x s) (take-suc code at d l) ∙ walk_append c (take at code) (get_or code at d ∷ []) s ∙ ap (λ o. then_if o (walk c (get_or code at d ∷ []))) h ∙ walk_one c (get_or code at d) fs

pub reached_on : (c : Context) (code : List Instr) (at next : ℕ) (d : Instr) (s t : TypeStacks) → at < length code → next ≡ suc at → Reached c code at s → ((fs : List Frame) → Stand fs s → false ≡ no_frame fs)
    → Goes (λ fs. class_of (at_frames c fs) (get_or code at d)) s t → Reached c code next t
reached_on c code at next d s t l n r open_blocks g = subst (λ m. Reached c code m t) (sym n) (by r.0 r.1 r.2)
  where
    by : (fs : List Frame) → walk c (take at code) (start c) ≡ Some fs → Stand fs s → Reached c code (suc at) t
    by [] h st = let q = open_blocks [] st in cc
    by (f ∷ fs) h st =
        let k = g f fs st in
        (k.0, walk_next c code at d (start c) (f ∷ fs) l h ∙ k.1, k.2)

pub fault_here : (c : Context) (code : List Instr) (at : ℕ) (d : Instr) (s : TypeStacks) → at < length code → Reached c code at s → ((fs : List Frame) → Stand fs s → false ≡ no_frame fs)
    → Stops (λ fs. class_of (at_frames c fs) (get_or code at d)) s → FirstFault c code at
fault_here c code at d s l r open_blocks g = by r.0 r.1 r.2
  where
    by : (fs : List Frame) → walk c (take at code) (start c) ≡ Some fs → Stand fs s → FirstFault c code at
    by [] h st = let q = open_blocks [] st in cc
    by (f ∷ fs) h st = (f ∷ fs, h, subst (λ o. CannotGoOn c o (f ∷ fs)) (sym (slice_get-get_or code at d l)) (g f fs st))

pub fault_at_end : (c : Context) (code : List Instr) (at place : ℕ) (s : TypeStacks) → length code ≤ at → at ≤ length code → place ≡ length code → Reached c code at s → ((fs : List Frame) → Stand fs s → false ≡ no_frame fs) → FirstFault c code place
fault_at_end c code at place s l m p r open_blocks =
    let e : at ≡ place = omega arith in
    (r.0, subst (λ n. walk c (take n code) (start c) ≡ Some r.0) e r.1, subst (λ o. CannotGoOn c o r.0) (sym (slice_get_past code place (omega arith))) (λ z. some r.0 z (open_blocks r.0 r.2)))
  where
    some : (fs : List Frame) → fs ≡ [] → false ≡ no_frame fs → ⊥
    some [] z q = cc
    some (f ∷ fs) z q = cc

-- where a fault stands the function is not checked
pub fault_refutes : (c : Context) (code : List Instr) (at : ℕ) → FirstFault c code at → Checked c code → ⊥
fault_refutes c code at f k = by (drop at code) refl
  where
    parts : walk c code (start c) ≡ walk c (drop at code) f.0
    parts = ap (λ x. walk c x (start c)) (sym (take-append-drop at code)) ∙ walk_append c (take at code) (drop at code) (start c) ∙ ap (λ o. then_if o (walk c (drop at code))) f.1

    get_drop : (xs : List Instr) (n : ℕ) → slice_get xs n ≡ slice_get (drop n xs) 0
    get_drop xs zero = refl
    get_drop [] (suc n) = refl
    get_drop (x ∷ xs) (suc n) = get_drop xs n

    by : (rest : List Instr) → drop at code ≡ rest → ⊥
    by [] e =
        let none : slice_get code at ≡ None = get_drop code at ∙ ap (λ x. slice_get x 0) e in
        let q : Some f.0 ≡ Some [] = sym (ap (λ x. walk c x f.0) e) ∙ sym parts ∙ k in
        let z : f.0 ≡ [] = cc in
        subst (λ o. CannotGoOn c o f.0) none f.2 z
    by (i ∷ rest) e =
        let some : slice_get code at ≡ Some i = get_drop code at ∙ ap (λ x. slice_get x 0) e in
        let stuck : step c i f.0 ≡ None = subst (λ o. CannotGoOn c o f.0) some f.2 in
        let q : None ≡ Some [] = sym (ap (λ x. walk c x f.0) e ∙ ap (λ o. then_if o (walk c rest)) stuck) ∙ sym parts ∙ k in
        cc

pub reached_on_slice : (c : Context) (code slice : List Instr) (at : ℕ) (d : Instr) (s t : TypeStacks) (closed : Bool) → slice ≡ code → at < length slice → Reached c code at s → ((fs : List Frame) → Stand fs s → closed ≡ no_frame fs) → closed ≡ false
    → Goes (λ fs. class_of (at_frames c fs) (get_or slice at d)) s t → Reached c code (at + 1) t
reached_on_slice c code slice at d s t closed e l r k o g =
    reached_on c code at (at + 1) d s t (subst (λ x. at < length x) e l) (omega arith) r (λ fs st. sym o ∙ k fs st) (subst (λ x. Goes (λ fs. class_of (at_frames c fs) (get_or x at d)) s t) e g)

pub fault_in_slice : (c : Context) (code slice : List Instr) (at : ℕ) (d : Instr) (s : TypeStacks) (closed : Bool) → slice ≡ code → at < length slice → Reached c code at s → ((fs : List Frame) → Stand fs s → closed ≡ no_frame fs) → closed ≡ false
    → Stops (λ fs. class_of (at_frames c fs) (get_or slice at d)) s → FirstFault c code at
fault_in_slice c code slice at d s closed e l r k o g =
    fault_here c code at d s (subst (λ x. at < length x) e l) r (λ fs st. sym o ∙ k fs st) (subst (λ x. Stops (λ fs. class_of (at_frames c fs) (get_or x at d)) s) e g)
