-- What is popped from the operands above a height.
use Rattle.std.proofs.Common.{◌≡◌, ℕ, zero, suc, ◌-◌, ◌<◌, ◌≤◌, Bool, true, false, List, [], ◌∷◌, ◌++◌, Option, Some, None, refl, sym, ◌∙◌, ap, subst, reverse, length, take, drop, get_or, arith, length-append, drop-cons}
use Rattle.std.proofs.lemmas.List.{reverse-append, length-reverse, take-append-drop, length-take-le, drop_all}
use Rattle.std.proofs.Math.Seq.{take-suc}
use Rattle.wasm_types.specs.declared.value.ValType.{ValType}
use Rattle.validator.specs.Walk.{Operand, then_if, agrees, only, pop_one, pop_all, known}
use Rattle.validator.specs.Standing.{Pops}

-- nothing stands above the height
none_above : (old os below : List Operand) (height : ℕ) → reverse old ≡ os ++ below → length below ≡ height → length old ≤ height → os ≡ []
none_above old [] below height e n h = refl
none_above old (o ∷ os) below height e n h = absurd (omega (arith, ap length e, length-reverse old, length-append os below))

-- the topmost operand was popped
pub popped_one : (old new : List Operand) (o : Operand) (unreachable : Bool) (want : ValType) (height : ℕ) (done : Bool) → height < length old → old ≡ new ++ o ∷ [] → done ≡ agrees want o
    → Pops (pop_one unreachable want) height done old new
popped_one old new o unreachable want height done h p y = subst (λ b. Pops (pop_one unreachable want) height b old new) (sym y) (by (agrees want o) refl)
  where
    top : reverse old ≡ o ∷ reverse new
    top = ap reverse p ∙ reverse-append new (o ∷ [])

    found : (os below : List Operand) → reverse old ≡ os ++ below → length below ≡ height → (left : List Operand) × (os ≡ o ∷ left) × (reverse new ≡ left ++ below)
    found [] below e n = absurd (omega (arith, ap length e, length-reverse old))
    found (v ∷ os) below e n =
        let s : o ∷ reverse new ≡ v ∷ (os ++ below) = sym top ∙ e in
        let t : o ≡ v = cc in
        (os, ap (λ x. x ∷ os) (sym t), cc)

    by : (b : Bool) → agrees want o ≡ b → Pops (pop_one unreachable want) height b old new
    by true q = λ os below e n.
        let f = found os below e n in
        (f.0, ap (pop_one unreachable want) f.1 ∙ ap (λ b. only b f.0) q, f.2)
    by false q = λ os below e n.
        let f = found os below e n in
        ap (pop_one unreachable want) f.1 ∙ ap (λ b. only b f.0) q

pop_all_append : (unreachable : Bool) (ts us : List ValType) (os : List Operand) → pop_all unreachable (ts ++ us) os ≡ then_if (pop_all unreachable ts os) (pop_all unreachable us)
pop_all_append unreachable [] us os = refl
pop_all_append unreachable (t ∷ ts) us os = by (λ left. pop_all_append unreachable ts us left) (pop_one unreachable t os)
  where
    by : ((left : List Operand) → pop_all unreachable (ts ++ us) left ≡ then_if (pop_all unreachable ts left) (pop_all unreachable us)) → (o : Option (List Operand))
        → then_if o (pop_all unreachable (ts ++ us)) ≡ then_if (then_if o (pop_all unreachable ts)) (pop_all unreachable us)
    by k None = refl
    by k (Some left) = k left

pub pops_none : (unreachable : Bool) (height : ℕ) (old : List Operand) → Pops (pop_all unreachable []) height true old old
pops_none unreachable height old os below e n = (os, refl, e)

pub start_from : (wants : List ValType) (unreachable : Bool) (height : ℕ) (old : List Operand) → Pops (pop_all unreachable (reverse (drop (length wants) wants))) height true old old
start_from wants unreachable height old = subst (λ ts. Pops (pop_all unreachable (reverse ts)) height true old old) (sym (drop_all (length wants) wants (omega arith))) (pops_none unreachable height old)

-- one more type
pub pops_more : (unreachable : Bool) (ts : List ValType) (t : ValType) (height : ℕ) (done : Bool) (old mid new : List Operand) → Pops (pop_all unreachable ts) height true old mid
    → Pops (pop_one unreachable t) height done mid new → Pops (pop_all unreachable (ts ++ t ∷ [])) height done old new
pops_more unreachable ts t height true old mid new a b = λ os below e n.
    let r = a os below e n in
    let s = b r.0 below r.2 n in
    (s.0, pop_all_append unreachable ts (t ∷ []) os ∙ ap (λ x. then_if x (pop_all unreachable (t ∷ []))) r.1 ∙ ap (λ x. then_if x (pop_all unreachable [])) s.1, s.2)
pops_more unreachable ts t height false old mid new a b = λ os below e n.
    let r = a os below e n in
    pop_all_append unreachable ts (t ∷ []) os ∙ ap (λ x. then_if x (pop_all unreachable (t ∷ []))) r.1 ∙ ap (λ x. then_if x (pop_all unreachable [])) (b r.0 below r.2 n)

-- what can't be popped can't be popped with more behind it
pops_stop : (unreachable : Bool) (ts us : List ValType) (height : ℕ) (old new : List Operand) → Pops (pop_all unreachable ts) height false old new → Pops (pop_all unreachable (ts ++ us)) height false old new
pops_stop unreachable ts us height old new a os below e n = pop_all_append unreachable ts us os ∙ ap (λ x. then_if x (pop_all unreachable us)) (a os below e n)

pop_nothing : (us : List ValType) → pop_all true us [] ≡ Some []
pop_nothing [] = refl
pop_nothing (u ∷ us) = pop_nothing us

-- where no operand is left, an unreachable block gives all that are wanted
pops_rest : (unreachable : Bool) (ts us : List ValType) (height : ℕ) (old mid : List Operand) → Pops (pop_all unreachable ts) height true old mid → length mid ≤ height → 0 < length us
    → Pops (pop_all unreachable (ts ++ us)) height unreachable old mid
pops_rest true ts us height old mid a h l = λ os below e n.
    let r = a os below e n in
    let z : r.0 ≡ [] = none_above mid r.0 below height r.2 n h in
    ([], pop_all_append true ts us os ∙ ap (λ x. then_if x (pop_all true us)) r.1 ∙ ap (pop_all true us) z ∙ pop_nothing us, r.2 ∙ ap (λ x. x ++ below) z)
pops_rest false ts [] height old mid a h l = absurd (omega arith)
pops_rest false ts (u ∷ us) height old mid a h l = λ os below e n.
    let r = a os below e n in
    let z : r.0 ≡ [] = none_above mid r.0 below height r.2 n h in
    pop_all_append false ts (u ∷ us) os ∙ ap (λ x. then_if x (pop_all false (u ∷ us))) r.1 ∙ ap (pop_all false (u ∷ us)) z

-- the wanted types by a place: those behind it, and those before it
parts : (wants : List ValType) (at : ℕ) → reverse wants ≡ reverse (drop at wants) ++ reverse (take at wants)
parts wants at = ap reverse (sym (take-append-drop at wants)) ∙ reverse-append (take at wants) (drop at wants)

one_before : (wants : List ValType) (at later : ℕ) (d : ValType) → 0 < later → later ≤ length wants → at ≡ later - 1 → reverse (drop at wants) ≡ reverse (drop later wants) ++ get_or wants at d ∷ []
one_before wants at later d p l q =
    let is_later : later ≡ suc at = omega arith in
    let lt : at < length wants = omega arith in
    ap reverse (drop-cons wants at d lt) ∙ reverse-append (get_or wants at d ∷ []) (drop (suc at) wants) ∙ ap (λ n. reverse (drop n wants) ++ get_or wants at d ∷ []) (sym is_later)

abbrev pub PopsFrom : ℕ → List ValType → Bool → ℕ → Bool → List Operand → List Operand → Type 0
PopsFrom at wants unreachable height done old new = Pops (pop_all unreachable (reverse (drop at wants))) height done old new

pub pops_one_more : (wants : List ValType) (at later : ℕ) (d : ValType) (unreachable : Bool) (height : ℕ) (got done : Bool) (old mid new : List Operand) → 0 < later → later ≤ length wants → at ≡ later - 1
    → PopsFrom later wants unreachable height true old mid → Pops (pop_one unreachable (get_or wants at d)) height got mid new → got ≡ done → PopsFrom at wants unreachable height done old new
pops_one_more wants at later d unreachable height got done old mid new p l q a b g =
    subst (λ ts. Pops (pop_all unreachable ts) height done old new) (sym (one_before wants at later d p l q))
    (pops_more unreachable (reverse (drop later wants)) (get_or wants at d) height done old mid new a (subst (λ x. Pops (pop_one unreachable (get_or wants at d)) height x mid new) g b))

pub pops_no_more : (wants : List ValType) (at : ℕ) (unreachable : Bool) (height : ℕ) (old new : List Operand) → PopsFrom at wants unreachable height false old new
    → Pops (pop_all unreachable (reverse wants)) height false old new
pops_no_more wants at unreachable height old new a =
    subst (λ ts. Pops (pop_all unreachable ts) height false old new) (sym (parts wants at)) (pops_stop unreachable (reverse (drop at wants)) (reverse (take at wants)) height old new a)

pub pops_all : (wants : List ValType) (at : ℕ) (unreachable : Bool) (height : ℕ) (old new : List Operand) → at ≤ 0 → PopsFrom at wants unreachable height true old new
    → Pops (pop_all unreachable (reverse wants)) height true old new
pops_all wants zero unreachable height old new z a = a
pops_all wants (suc at) unreachable height old new z a = absurd (omega arith)

pub pops_emptied : (wants : List ValType) (at : ℕ) (unreachable : Bool) (height : ℕ) (old mid : List Operand) → 0 < at → at ≤ length wants → length mid ≤ height
    → PopsFrom at wants unreachable height true old mid → Pops (pop_all unreachable (reverse wants)) height unreachable old mid
pops_emptied wants at unreachable height old mid p l h a =
    subst (λ ts. Pops (pop_all unreachable ts) height unreachable old mid) (sym (parts wants at))
    (pops_rest unreachable (reverse (drop at wants)) (reverse (take at wants)) height old mid a h (omega (arith, length-reverse (take at wants), length-take-le at wants l)))

pub put_more : (gives : List ValType) (i : ℕ) (d : ValType) (old mid new : List Operand) → i < length gives → reverse mid ≡ known (reverse (take i gives)) ++ reverse old
    → new ≡ mid ++ Some (get_or gives i d) ∷ [] → reverse new ≡ known (reverse (take (suc i) gives)) ++ reverse old
put_more gives i d old mid new l h n =
    ap reverse n ∙ reverse-append mid (Some (get_or gives i d) ∷ []) ∙ ap (λ x. Some (get_or gives i d) ∷ x) h
    ∙ ap (λ x. known x ++ reverse old) (sym (ap reverse (take-suc gives i d l) ∙ reverse-append (take i gives) (get_or gives i d ∷ [])))
