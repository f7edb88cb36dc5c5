-- What instructions do first with a global.
use Rattle.std.proofs.Common.{◌≡◌, ◌≢◌, ◌<◌, ◌+◌, ℕ, Bool, true, false, List, ◌∷◌, length, get_or, drop, map, cond, refl, ap, sym, subst, ◌∙◌}
use Rattle.std.specs.Prelude.{◌==◌, Option, Some, None}
use Rattle.std.specs.List.{find}
use Rattle.std.proofs.lemmas.Bool.Decides.{Decides-eqb}
use Rattle.wasm_types.specs.declared.instruction.Instr.{Instr}
use Rattle.thread_plan.specs.declared.global_use.GlobalUse.{GlobalUse}
use Rattle.thread_plan.specs.declared.global_use.GlobalUse.TheVariants.{Nothing}
use Rattle.thread_plan.specs.Globals.{use_of, concerns, is_no_set, begins_with}
use Rattle.thread_plan.specs.Starts.{else_by, value_or}

-- what is noted of the instructions so far, and the instructions that are left, say with which of so many globals the
-- body begins
abbrev pub Noted : ℕ → List Instr → ℕ → List (Option Bool) → Type 0
Noted globals code at first = (g : ℕ) → g < globals → else_by (get_or first g None) (begins_with g (drop at code)) ≡ begins_with g code

else_value : (o : Option Bool) (takes later : Bool) → else_by (value_or o takes) later ≡ else_by o takes
else_value None takes later = refl
else_value (Some b) takes later = refl

module _ (globals : ℕ) (code : List Instr) (at : ℕ) (i : Instr) (first : List (Option Bool)) (split : drop at code ≡ i ∷ drop (at + 1) code) (noted : Noted globals code at first) where
  -- the body from the instruction on, by what this does
  pub from_here : (g : ℕ) (u : GlobalUse) → use_of i ≡ u → begins_with g (drop at code) ≡ is_no_set (cond (concerns g u) (Some u) (find (concerns g) (map use_of (drop (at + 1) code))))
  from_here g u used = ap (begins_with g) split ∙ ap (λ v. is_no_set (cond (concerns g v) (Some v) (find (concerns g) (map use_of (drop (at + 1) code))))) used

  pub none_named : use_of i ≡ Nothing → Noted globals code (at + 1) first
  none_named used = λ g lt. ap (else_by (get_or first g None)) (sym (from_here g Nothing used)) ∙ noted g lt

  module _ (next : List (Option Bool)) (h : ℕ) (takes : Bool) (u : GlobalUse) (used : use_of i ≡ u) (concern : (g : ℕ) → concerns g u ≡ (h == g)) (is : is_no_set (Some u) ≡ takes) (size : length first ≡ globals)
      (here : h < length first → get_or next h None ≡ value_or (get_or first h None) takes) (others : (g : ℕ) → g ≢ h → get_or next g None ≡ get_or first g None) where
    by_test : (g : ℕ) → g < globals → (b : Bool) → (h == g) ≡ b → else_by (get_or next g None) (begins_with g (drop (at + 1) code)) ≡ begins_with g code
    by_test g lt true e =
        let same : h ≡ g = (Decides-eqb h g).0 e in
        let within : h < length first = subst (λ (n : ℕ). n < length first) (sym same) (subst (λ (n : ℕ). g < n) (sym size) lt) in
        let now : get_or next g None ≡ value_or (get_or first g None) takes = subst (λ (n : ℕ). get_or next n None ≡ value_or (get_or first n None) takes) same (here within) in
        let whole : begins_with g (drop at code) ≡ takes = from_here g u used ∙ ap (λ c. is_no_set (cond c (Some u) (find (concerns g) (map use_of (drop (at + 1) code))))) (concern g ∙ e) ∙ is in
        ap (λ o. else_by o (begins_with g (drop (at + 1) code))) now ∙ else_value (get_or first g None) takes (begins_with g (drop (at + 1) code)) ∙ ap (else_by (get_or first g None)) (sym whole) ∙ noted g lt
    by_test g lt false e =
        let other : g ≢ h = λ same. absurd (let yes : (h == g) ≡ true = (Decides-eqb h g).1 (sym same) in cc) in
        let whole : begins_with g (drop at code) ≡ begins_with g (drop (at + 1) code) = from_here g u used ∙ ap (λ c. is_no_set (cond c (Some u) (find (concerns g) (map use_of (drop (at + 1) code))))) (concern g ∙ e) in
        ap (λ o. else_by o (begins_with g (drop (at + 1) code))) (others g other) ∙ ap (else_by (get_or first g None)) (sym whole) ∙ noted g lt

    pub one_named : Noted globals code (at + 1) next
    one_named = λ g lt. by_test g lt (h == g) refl
