-- What the rules of a module say of a function.
use Rattle.std.proofs.Common.{◌≡◌, ℕ, zero, suc, ◌+◌, ◌^◌, ◌<◌, ◌≤◌, Bool, true, false, List, [], ◌∷◌, ◌++◌, Option, Some, None, refl, sym, ◌∙◌, ap, subst, take, length, get_or, arith, ◌&&◌, slice_get, ◌⊎◌, inl, inr}
use Rattle.std.specs.Prelude.{nat_lt, nat_eq, option_map}
use Rattle.std.specs.List.{list_all}
use Rattle.std.proofs.lemmas.Bool.{leb-true, ltb-true, eqb-true}
use Rattle.std.proofs.lemmas.List.{map-append}
use Rattle.std.proofs.lemmas.Option.{slice_get-get_or, get_or_from_slice_get, slice_get_within}
use Rattle.std.proofs.Math.Seq.{take-suc}
use Rattle.wasm_types.specs.declared.modules.Module.{Module}
use Rattle.wasm_types.specs.declared.modules.FuncType.{FuncType}
use Rattle.wasm_types.specs.declared.modules.Body.{Body}
use Rattle.validator.specs.declared.targets.Target.{Target}
use Rattle.validator.specs.Targets.{targets_from}
use Rattle.validator.specs.declared.fault.CheckFault.{CheckFault}
use Rattle.validator.specs.declared.fault.CheckFault.TheVariants.{IllTyped, NoMemory}
use Rattle.validator.specs.Context.{context_of, function_type, type_by}
use Rattle.validator.specs.Faults.{FaultOf}
use Rattle.validator.specs.Walk.{Checked}
use Rattle.validator.specs.Module.{rules, types_fit, functions_fit, tables_fit, memories_fit, globals_fit, exports_fit, start_fits, elements_fit, data_fit, has_one_result, is_there, is_short}
use Rattle.validator.specs.Valid.{TypedAt, IsOfFunction, fault_in, all_targets}
use Rattle.validator.proofs.Complete.{complete}
use Rattle.validator.proofs.Sound.{checked_typed}
use Rattle.validator.proofs.Walking.{fault_refutes}

pub both : (a b : Bool) → (a && b) ≡ true → (a ≡ true) × (b ≡ true)
both true b h = (refl, h)
both false b h = cc

pub all_at : {X : Type 0} (p : X → Bool) (xs : List X) (i : ℕ) (x : X) → list_all p xs ≡ true → slice_get xs i ≡ Some x → p x ≡ true
all_at p [] i x h e = cc
all_at p (y ∷ ys) zero x h e = let q : y ≡ x = cc in subst (λ z. p z ≡ true) q (both (p y) (list_all p ys) h).0
all_at p (y ∷ ys) (suc i) x h e = all_at p ys i x (both (p y) (list_all p ys) h).1 e

-- the rules on types and functions
record OfFunctions (m : Module) : Type 0 where
  one_result : list_all has_one_result m.types ≡ true
  types_there : list_all (is_there m.types) m.functions ≡ true
  as_many : length m.functions ≡ length m.bodies
  few : length m.functions < 2 ^ 32
  short : list_all is_short m.bodies ≡ true

abbrev first0 : Module → Bool
first0 m = types_fit m && functions_fit m

abbrev first1 : Module → Bool
first1 m = first0 m && tables_fit m

abbrev first2 : Module → Bool
first2 m = first1 m && memories_fit m

abbrev first3 : Module → Bool
first3 m = first2 m && globals_fit m

abbrev first4 : Module → Bool
first4 m = first3 m && exports_fit m

abbrev first5 : Module → Bool
first5 m = first4 m && start_fits m

abbrev first6 : Module → Bool
first6 m = first5 m && elements_fit m

of_functions : (m : Module) → rules m ≡ true → OfFunctions m
of_functions m h =
    let a6 = both (first6 m) (data_fit m) h in
    let a5 = both (first5 m) (elements_fit m) a6.0 in
    let a4 = both (first4 m) (start_fits m) a5.0 in
    let a3 = both (first3 m) (exports_fit m) a4.0 in
    let a2 = both (first2 m) (globals_fit m) a3.0 in
    let a1 = both (first1 m) (memories_fit m) a2.0 in
    let a0 = both (first0 m) (tables_fit m) a1.0 in
    let a = both (types_fit m) (functions_fit m) a0.0 in
    let e = both ((list_all (is_there m.types) m.functions && nat_eq (length m.functions) (length m.bodies)) && nat_lt (length m.functions) (2 ^ 32)) (list_all is_short m.bodies) a.1 in
    let d = both (list_all (is_there m.types) m.functions && nat_eq (length m.functions) (length m.bodies)) (nat_lt (length m.functions) (2 ^ 32)) e.0 in
    let c = both (list_all (is_there m.types) m.functions) (nat_eq (length m.functions) (length m.bodies)) d.0 in
    record {
      one_result = a.0;
      types_there = c.0;
      as_many = eqb-true (length m.functions) (length m.bodies) c.1;
      few = ltb-true (length m.functions) (2 ^ 32) d.1;
      short = e.1;
    }

pub elements_rule : (m : Module) → rules m ≡ true → elements_fit m ≡ true
elements_rule m h = (both (first5 m) (elements_fit m) (both (first6 m) (data_fit m) h).0).1

pub start_rule : (m : Module) → rules m ≡ true → start_fits m ≡ true
start_rule m h = (both (first4 m) (start_fits m) (both (first5 m) (elements_fit m) (both (first6 m) (data_fit m) h).0).0).1

pub globals_rule : (m : Module) → rules m ≡ true → globals_fit m ≡ true
globals_rule m h =
    let a5 = both (first5 m) (elements_fit m) (both (first6 m) (data_fit m) h).0 in
    let a3 = both (first3 m) (exports_fit m) (both (first4 m) (start_fits m) a5.0).0 in
    (both (first2 m) (globals_fit m) a3.0).1

pub as_many_bodies : (m : Module) → rules m ≡ true → length m.functions ≡ length m.bodies
as_many_bodies m h = (of_functions m h).as_many

typed_by : (m : Module) (o : Option ℕ) (kind : FuncType) → type_by m o ≡ Some kind → (index : ℕ) × (slice_get m.types index ≡ Some kind)
typed_by m None kind h = cc
typed_by m (Some index) kind h = (index, h)

pub kind_has_one_result : (m : Module) (function : ℕ) (kind : FuncType) → rules m ≡ true → function_type m function ≡ Some kind → length kind.results ≤ 1
kind_has_one_result m function kind h e =
    let t = typed_by m (slice_get m.functions function) kind e in
    leb-true (length kind.results) 1 (all_at has_one_result m.types t.0 kind (of_functions m h).one_result t.1)

pub body_is_short : (m : Module) (function : ℕ) (body : Body) → rules m ≡ true → slice_get m.bodies function ≡ Some body → length body.code < 2 ^ 32
body_is_short m function body h e = ltb-true (length body.code) (2 ^ 32) (all_at is_short m.bodies function body (of_functions m h).short e)

pub some_there : {X : Type 0} (xs : List X) (i : ℕ) → i < length xs → (x : X) × (slice_get xs i ≡ Some x)
some_there [] i l = absurd (omega arith)
some_there (x ∷ xs) zero l = (x, refl)
some_there (x ∷ xs) (suc i) l = some_there xs i (omega arith)

-- what is named by a number in range is there
pub named_type : (m : Module) (function : ℕ) → rules m ≡ true → function < length m.functions → (kind : FuncType) × (function_type m function ≡ Some kind)
named_type m function h l =
    let o = of_functions m h in
    let f = some_there m.functions function l in
    let t = some_there m.types f.0 (ltb-true f.0 (length m.types) (all_at (is_there m.types) m.functions function f.0 o.types_there f.1)) in
    (t.0, ap (type_by m) f.1 ∙ t.1)

typed_function : (m : Module) (o : Option ℕ) (kind : FuncType) → type_by m o ≡ Some kind → (index : ℕ) × (o ≡ Some index)
typed_function m None kind h = cc
typed_function m (Some index) kind h = (index, refl)

-- a function with a type has a body
pub typed_has_body : (m : Module) (function : ℕ) (kind : FuncType) → rules m ≡ true → function_type m function ≡ Some kind → (body : Body) × (slice_get m.bodies function ≡ Some body)
typed_has_body m function kind h e =
    let t = typed_function m (slice_get m.functions function) kind e in
    let within = slice_get_within m.functions function t.0 t.1 in
    let as_many = (of_functions m h).as_many in
    some_there m.bodies function (omega arith)

pub has_some_type : (m : Module) (function : ℕ) → rules m ≡ true → function < length m.bodies → function_type m function ≡ None → ⊥
has_some_type m function h l e =
    let o = of_functions m h in
    let as_many = o.as_many in
    let f = some_there m.functions function (omega arith) in
    let t = some_there m.types f.0 (ltb-true f.0 (length m.types) (all_at (is_there m.types) m.functions function f.0 o.types_there f.1)) in
    let q : None ≡ Some t.0 = sym e ∙ ap (type_by m) f.1 ∙ t.1 in
    cc

pub body_there : (bodies slice : List Body) (function : ℕ) (body : Body) → slice ≡ bodies → function < length bodies → body ≡ get_or slice function body → slice_get bodies function ≡ Some body
body_there bodies slice function body e l h = slice_get-get_or bodies function body l ∙ ap (λ x. Some (get_or x function body)) (sym e) ∙ ap Some (sym h)

pub located : (m : Module) (function : ℕ) (kind : FuncType) (body : Body) (fault : CheckFault) → ((g : ℕ) → g < function → TypedAt m g) → function_type m function ≡ Some kind
    → slice_get m.bodies function ≡ Some body → FaultOf (context_of m kind body) body.code fault → IsOfFunction m (fault_in function fault)
located m function kind body (IllTyped at cause) before t b f = (
  record { kind = kind; body = body; has_type = t; has_body = b; first_fault = f; before = before },
  λ w. fault_refutes (context_of m kind body) body.code at f (complete (context_of m kind body) body.code (w.functions_typed function kind body t b)),
)
located m function kind body NoMemory before t b f = tt

pub typed_at : (m : Module) (function : ℕ) (kind : FuncType) (body : Body) → function_type m function ≡ Some kind → slice_get m.bodies function ≡ Some body → Checked (context_of m kind body) body.code → TypedAt m function
typed_at m function kind body t b k kind2 body2 t2 b2 =
    let p : Some kind ≡ Some kind2 = sym t ∙ t2 in
    let q : Some body ≡ Some body2 = sym b ∙ b2 in
    let kinds : kind ≡ kind2 = cc in
    let same : body ≡ body2 = cc in
    checked_typed (context_of m kind2 body2) body2.code
    (subst (λ x. Checked (context_of m kind2 x) x.code) same (subst (λ x. Checked (context_of m x body) body.code) kinds k))

-- the functions so far are typed, and have their targets
pub record TypedSoFar (m : Module) (targets : List (List (Option Target))) (count : ℕ) : Type 0 where
  pub typed : (function : ℕ) → function < count → TypedAt m function
  pub targets_are : targets ≡ all_targets (take count m.bodies)

pub typed_one_more : (m : Module) (targets later : List (List (Option Target))) (count : ℕ) (found : List (Option Target)) → count < length m.bodies → TypedSoFar m targets count → TypedAt m count
    → option_map (λ (body : Body). targets_from 0 body.code) (slice_get m.bodies count) ≡ Some found → later ≡ targets ++ found ∷ [] → TypedSoFar m later (count + 1)
typed_one_more m targets later count found l s t f p =
    let b = some_there m.bodies count l in
    let g : get_or m.bodies count b.0 ≡ b.0 = get_or_from_slice_get m.bodies count b.0 b.0 b.1 in
    let q : Some (targets_from 0 (b.0).code) ≡ Some found = sym (ap (option_map (λ (body : Body). targets_from 0 body.code)) b.1) ∙ f in
    let r : targets_from 0 (b.0).code ≡ found = cc in
    let n : count + 1 ≡ suc count = omega arith in
    record {
      typed = λ function h. by function (split function h);
      targets_are = p ∙ ap (λ x. x ++ found ∷ []) s.targets_are ∙ ap (λ x. all_targets (take count m.bodies) ++ x ∷ []) (sym r)
          ∙ sym (map-append (λ (body : Body). targets_from 0 body.code) (take count m.bodies) (b.0 ∷ []))
          ∙ ap (λ x. all_targets (take count m.bodies ++ x ∷ [])) (sym g) ∙ sym (ap all_targets (take-suc m.bodies count b.0 l)) ∙ ap (λ x. all_targets (take x m.bodies)) (sym n);
    }
  where
    split : (function : ℕ) → function < count + 1 → (function < count) ⊎ (function ≡ count)
    split function h = at function count h
      where
        at : (x y : ℕ) → x < y + 1 → (x < y) ⊎ (x ≡ y)
        at zero zero h = inr refl
        at zero (suc y) h = inl (omega arith)
        at (suc x) zero h = absurd (omega arith)
        at (suc x) (suc y) h = by_one (at x y (omega arith))
          where
            by_one : (x < y) ⊎ (x ≡ y) → (suc x < suc y) ⊎ (suc x ≡ suc y)
            by_one (inl k) = inl (omega arith)
            by_one (inr k) = inr (ap suc k)

    by : (function : ℕ) → (function < count) ⊎ (function ≡ count) → TypedAt m function
    by function (inl h) = s.typed function h
    by function (inr h) = subst (TypedAt m) (sym h) t

pub all_typed : (m : Module) (targets : List (List (Option Target))) (count : ℕ) → length m.bodies ≤ count → TypedSoFar m targets count → (function : ℕ) → TypedAt m function
all_typed m targets count l s function kind body t b = s.typed function (let w = slice_get_within m.bodies function body b in omega arith) kind body t b
