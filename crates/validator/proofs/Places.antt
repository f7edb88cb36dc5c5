-- What is popped from so many of the lower operands.
use Rattle.std.proofs.Common.{◌≡◌, ℕ, suc, ◌-◌, ◌<◌, ◌≤◌, Bool, true, false, List, [], ◌∷◌, ◌++◌, Option, Some, None, refl, sym, ◌∙◌, ap, subst, reverse, length, take, get_or, arith, length-append}
use Rattle.std.proofs.lemmas.List.{reverse-append, length-reverse, length-take, length-take-le}
use Rattle.std.proofs.Math.Seq.{take-suc, take-length}
use Rattle.wasm_types.specs.declared.value.ValType.{ValType}
use Rattle.validator.specs.declared.stacks.OpenBlock.{OpenBlock}
use Rattle.validator.specs.Table.{seq}
use Rattle.validator.specs.Walk.{Operand, agrees, pop_one, pop_all, pop_any, closed, emptied}
use Rattle.validator.specs.Standing.{Pops, PopsTo, PopsAny, TakesResult}
use Rattle.validator.proofs.Popping.{popped_one, PopsFrom, pops_emptied}

-- so many of the lower operands are no more
few : (operands : List Operand) (count height : ℕ) → count ≤ height → length (take count operands) ≤ height
few operands count height h = omega (arith, length-take count operands)

-- the uppermost of so many
uppermost : (operands : List Operand) (count : ℕ) (d : Operand) → 0 < count → count ≤ length operands → take count operands ≡ take (count - 1) operands ++ get_or operands (count - 1) d ∷ []
uppermost operands count d p l =
    let n : count ≡ suc (count - 1) = omega arith in
    let lt : count - 1 < length operands = omega arith in
    ap (λ k. take k operands) n ∙ take-suc operands (count - 1) d lt

pub one_there : (operands : List Operand) (count height : ℕ) (d o : Operand) (unreachable : Bool) (want : ValType) (suits : Bool) → height < count → count ≤ length operands → o ≡ get_or operands (count - 1) d → suits ≡ agrees want o → suits ≡ true
    → PopsTo (pop_one unreachable want) height operands count (Some (count - 1))
one_there operands count height d o unreachable want suits h l is a t =
    subst (λ b. Pops (pop_one unreachable want) height b (take count operands) (take (count - 1) operands)) t
    (popped_one (take count operands) (take (count - 1) operands) o unreachable want height suits (omega (arith, length-take-le count operands l))
    (uppermost operands count d (omega arith) l ∙ ap (λ x. take (count - 1) operands ++ x ∷ []) (sym is)) a)

-- where all that are wanted come from nothing
pub all_from_nothing : (wants : List ValType) (at : ℕ) (unreachable : Bool) (height : ℕ) (operands : List Operand) (count left : ℕ) → 0 < at → at ≤ length wants → left ≤ height → unreachable ≡ true
    → PopsFrom at wants unreachable height true (take count operands) (take left operands) → PopsTo (pop_all unreachable (reverse wants)) height operands count (Some left)
all_from_nothing wants at unreachable height operands count left p l h u a =
    subst (λ b. Pops (pop_all unreachable (reverse wants)) height b (take count operands) (take left operands)) u
    (pops_emptied wants at unreachable height (take count operands) (take left operands) p l (few operands left height h) a)

pub not_all : (wants : List ValType) (at : ℕ) (unreachable : Bool) (height : ℕ) (operands : List Operand) (count left : ℕ) → 0 < at → at ≤ length wants → left ≤ height → unreachable ≡ false
    → PopsFrom at wants unreachable height true (take count operands) (take left operands) → PopsTo (pop_all unreachable (reverse wants)) height operands count None
not_all wants at unreachable height operands count left p l h u a =
    subst (λ b. Pops (pop_all unreachable (reverse wants)) height b (take count operands) (take left operands)) u
    (pops_emptied wants at unreachable height (take count operands) (take left operands) p l (few operands left height h) a)

-- what is popped from all operands
abbrev pub PopsWhole : (List Operand → Option (List Operand)) → ℕ → List Operand → List Operand → Option ℕ → Type 0
PopsWhole pop height old operands None = Pops pop height false old []
PopsWhole pop height old operands (Some left) = Pops pop height true old (take left operands)

taken_whole : (old operands : List Operand) (count : ℕ) → operands ≡ old → count ≡ length operands → take count operands ≡ old
taken_whole old operands count s n = ap (λ k. take k operands) n ∙ take-length operands ∙ s

pub whole : (pop : List Operand → Option (List Operand)) (height : ℕ) (old operands : List Operand) (count : ℕ) (popped : Option ℕ) → operands ≡ old → count ≡ length operands → PopsTo pop height operands count popped
    → PopsWhole pop height old operands popped
whole pop height old operands count None s n p = subst (λ x. Pops pop height false x []) (taken_whole old operands count s n) p
whole pop height old operands count (Some left) s n p = subst (λ x. Pops pop height true x (take left operands)) (taken_whole old operands count s n) p

pub whole_none : (pop : List Operand → Option (List Operand)) (height : ℕ) (old operands : List Operand) (count : ℕ) (popped : Option ℕ) → operands ≡ old → count ≡ length operands → PopsTo pop height operands count popped → popped ≡ None
    → Pops pop height false old []
whole_none pop height old operands count popped s n p e = subst (PopsWhole pop height old operands) e (whole pop height old operands count popped s n p)

pub whole_some : (pop : List Operand → Option (List Operand)) (height : ℕ) (old operands new : List Operand) (count left : ℕ) (popped : Option ℕ) → operands ≡ old → count ≡ length operands → PopsTo pop height operands count popped → popped ≡ Some left
    → new ≡ take left old → Pops pop height true old new
whole_some pop height old operands new count left popped s n p e t =
    subst (λ x. Pops pop height true old x) (ap (take left) s ∙ sym t) (subst (PopsWhole pop height old operands) e (whole pop height old operands count popped s n p))

-- one operand of any type
pop_top : (unreachable : Bool) (o : Operand) (os : List Operand) → pop_any unreachable (o ∷ os) ≡ Some (o, os)
pop_top true o os = refl
pop_top false o os = refl

pub any_there : (operands : List Operand) (count height : ℕ) (d o : Operand) (unreachable : Bool) → height < count → count ≤ length operands → o ≡ get_or operands (count - 1) d
    → PopsAny unreachable height (Some o) (take count operands) (take (count - 1) operands)
any_there operands count height d o unreachable h l is os below e n = found os e
  where
    top : reverse (take count operands) ≡ o ∷ reverse (take (count - 1) operands)
    top =
        ap reverse (uppermost operands count d (omega arith) l ∙ ap (λ x. take (count - 1) operands ++ x ∷ []) (sym is))
        ∙ reverse-append (take (count - 1) operands) (o ∷ [])

    found : (os : List Operand) → reverse (take count operands) ≡ os ++ below → (left : List Operand) × (pop_any unreachable os ≡ Some (o, left)) × (reverse (take (count - 1) operands) ≡ left ++ below)
    found [] e = absurd (omega (arith, ap length e, length-reverse (take count operands), length-take-le count operands l))
    found (v ∷ os) e =
        let s : o ∷ reverse (take (count - 1) operands) ≡ v ∷ (os ++ below) = sym top ∙ e in
        let t : o ≡ v = cc in
        (os, ap (λ x. pop_any unreachable (x ∷ os)) (sym t) ∙ pop_top unreachable o os, cc)

-- the result of a block
none_left : (left : List Operand) → length left ≤ 0 → left ≡ []
none_left [] h = refl
none_left (o ∷ os) h = absurd (omega arith)

pub result_alone : (b : OpenBlock) (old new : List Operand) (left : ℕ) → left ≤ b.height → new ≡ take left old → Pops (pop_all b.unreachable (seq b.result)) b.height true old (take left old) → TakesResult b true old new
result_alone b old new left h t p os below e n =
    let r = p os below e n in
    let none : r.0 ≡ [] = none_left r.0 (omega (arith, ap length r.2, length-reverse (take left old), length-take left old, length-append r.0 below)) in
    (ap closed r.1 ∙ ap emptied none, λ q. ap reverse t ∙ r.2 ∙ ap (λ x. x ++ below) none)
