-- How a thread of a well typed module begins: its table names functions, its globals and locals have their types.
use Rattle.std.proofs.Common.{◌≡◌, ℕ, zero, suc, ◌+◌, true, List, [], ◌∷◌, ◌++◌, Option, Some, None, refl, sym, ◌∙◌, ap, subst, take, drop, length, slice_get, map, ◌&&◌, ◌<◌}
use Rattle.std.specs.Prelude.{replicate}
use Rattle.std.specs.List.{list_all}
use Rattle.std.proofs.lemmas.Bool.{ltb-true}
use Rattle.wasm_types.specs.declared.value.ValType.{ValType}
use Rattle.wasm_types.specs.declared.value.ValType.TheVariants.{I32, I64}
use Rattle.wasm_types.specs.declared.key.Profile.{Profile}
use Rattle.wasm_types.specs.declared.modules.Module.{Module}
use Rattle.wasm_types.specs.declared.modules.FuncType.{FuncType}
use Rattle.wasm_types.specs.declared.modules.Element.{Element}
use Rattle.wasm_types.specs.declared.modules.Global.{Global}
use Rattle.wasm_types.specs.declared.modules.Limits.{Limits}
use Rattle.wasm_types.specs.Values.{bits_of, same_type, type_of}
use Rattle.validator.specs.Context.{function_type}
use Rattle.validator.specs.Module.{rules, is_there, is_without, starts, start_by, element_fits, global_fits}
use Rattle.validator.proofs.Ruled.{both, elements_rule, start_rule, globals_rule, named_type}
use Rattle.thread_words.specs.Instance.{HasFunctions}
use Rattle.thread_words.specs.Activation.{types}
use Rattle.thread_words.specs.Thread.{zero_of, answers}
use Rattle.wasm_types.specs.Tables.{with_functions, with_elements, empty_by, opening_table}
use Rattle.wasm_types.specs.Globals.{opening_globals}
use Rattle.thread_words.specs.Opening.{instance_of}

pub same_is : (t u : ValType) → same_type t u ≡ true → t ≡ u
same_is I32 I32 h = refl
same_is I32 I64 h = cc
same_is I64 I32 h = cc
same_is I64 I64 h = refl

-- ---- values of types

pub zeros_types : (ts : List ValType) → types (map zero_of ts) ≡ ts
zeros_types [] = refl
zeros_types (I32 ∷ ts) = ap (λ x. I32 ∷ x) (zeros_types ts)
zeros_types (I64 ∷ ts) = ap (λ x. I64 ∷ x) (zeros_types ts)

pub answers_types : (ts : List ValType) (bits : ℕ) → types (answers ts bits) ≡ ts
answers_types [] bits = refl
answers_types (I32 ∷ ts) bits = ap (λ x. I32 ∷ x) (answers_types ts bits)
answers_types (I64 ∷ ts) bits = ap (λ x. I64 ∷ x) (answers_types ts bits)

globals_types : (gs : List Global) → list_all global_fits gs ≡ true → types (map (λ (g : Global). g.value) gs) ≡ map (λ (g : Global). g.val_type) gs
globals_types [] h = refl
globals_types (g ∷ gs) h =
    let b = both (global_fits g) (list_all global_fits gs) h in
    ap (λ x. x ∷ types (map (λ (g : Global). g.value) gs)) (same_is (type_of g.value) g.val_type b.0) ∙ ap (λ x. g.val_type ∷ x) (globals_types gs b.1)

pub opening_globals_types : (m : Module) → rules m ≡ true → types (opening_globals m) ≡ map (λ (g : Global). g.val_type) m.globals
opening_globals_types m h = globals_types m.globals (globals_rule m h)

-- ---- the start function

without_is : {X : Type 0} (xs : List X) → is_without xs ≡ true → xs ≡ []
without_is [] h = refl
without_is (x ∷ xs) h = cc

starts_is : (o : Option FuncType) → starts o ≡ true → (kind : FuncType) × (o ≡ Some kind) × (kind.params ≡ []) × (kind.results ≡ [])
starts_is None h = cc
starts_is (Some kind) h = let b = both (is_without kind.params) (is_without kind.results) h in (kind, refl, without_is kind.params b.0, without_is kind.results b.1)

-- the start function takes and leaves nothing
pub start_is : (m : Module) (start : ℕ) → rules m ≡ true → m.start ≡ Some start → (kind : FuncType) × (function_type m start ≡ Some kind) × (kind.params ≡ []) × (kind.results ≡ [])
start_is m start h e = starts_is (function_type m start) (sym (ap (start_by m) e) ∙ start_rule m h)

-- ---- the table

abbrev IsBelow : ℕ → Option ℕ → Type 0
IsBelow many None = Unit {0}
IsBelow many (Some f) = f < many

-- each element is a function below a number, or nothing
abbrev Below : ℕ → List (Option ℕ) → Type 0
Below many [] = Unit {0}
Below many (o ∷ table) = IsBelow many o × Below many table

below_append : (many : ℕ) (a b : List (Option ℕ)) → Below many a → Below many b → Below many (a ++ b)
below_append many [] b h k = k
below_append many (o ∷ a) b h k = (h.0, below_append many a b h.1 k)

below_take : (many n : ℕ) (a : List (Option ℕ)) → Below many a → Below many (take n a)
below_take many zero a h = tt
below_take many (suc n) [] h = tt
below_take many (suc n) (o ∷ a) h = (h.0, below_take many n a h.1)

below_drop : (many n : ℕ) (a : List (Option ℕ)) → Below many a → Below many (drop n a)
below_drop many zero a h = h
below_drop many (suc n) [] h = tt
below_drop many (suc n) (o ∷ a) h = below_drop many n a h.1

below_empty : (many n : ℕ) → Below many (replicate n None)
below_empty many zero = tt
below_empty many (suc n) = (tt, below_empty many n)

below_some : (m : Module) (fs : List ℕ) → list_all (is_there m.functions) fs ≡ true → Below (length m.functions) (map (λ f. Some f) fs)
below_some m [] h = tt
below_some m (f ∷ fs) h = let b = both (is_there m.functions f) (list_all (is_there m.functions) fs) h in (ltb-true f (length m.functions) b.0, below_some m fs b.1)

below_with : (m : Module) (es : List Element) (table : List (Option ℕ)) → list_all (element_fits m) es ≡ true → Below (length m.functions) table → Below (length m.functions) (with_elements es table)
below_with m [] table h k = k
below_with m (e ∷ es) table h k =
    let b = both (element_fits m e) (list_all (element_fits m) es) h in
    let c = both (is_there m.tables e.table && same_type (type_of e.offset) I32) (list_all (is_there m.functions) e.functions) b.0 in
    let many = length m.functions in
    below_with m es (with_functions (bits_of e.offset) e.functions table) b.1
    (below_append many (take (bits_of e.offset) table) _ (below_take many (bits_of e.offset) table k)
    (below_append many (map (λ f. Some f) e.functions) _ (below_some m e.functions c.1) (below_drop many (bits_of e.offset + length e.functions) table k)))

below_first : (many : ℕ) (o : Option Limits) → Below many (empty_by o)
below_first many None = tt
below_first many (Some limits) = below_empty many limits.minimum

below_at : (many : ℕ) (table : List (Option ℕ)) (n f : ℕ) → Below many table → slice_get table n ≡ Some (Some f) → f < many
below_at many [] n f h e = cc
below_at many (o ∷ table) zero f h e = let q : o ≡ Some f = cc in subst (IsBelow many) q h.0
below_at many (o ∷ table) (suc n) f h e = below_at many table n f h.1 e

-- the table of an instance names functions of its module
pub instance_has_functions : (m : Module) (profile : Profile) (thread : ℕ) → rules m ≡ true → HasFunctions m (instance_of m profile thread)
instance_has_functions m profile thread h n f e =
    named_type m f h (below_at (length m.functions) (opening_table m) n f (below_with m m.elements _ (elements_rule m h) (below_first (length m.functions) (slice_get m.tables 0))) e)
