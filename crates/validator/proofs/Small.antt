-- The limits of modules, tested one after the other.
use Rattle.std.proofs.Common.{◌≡◌, ℕ, zero, suc, ◌+◌, ◌<◌, ◌≤◌, Bool, true, false, List, [], ◌∷◌, length, take, get_or, refl, sym, ap, subst, ◌∙◌, arith, map, add-one}
use Rattle.std.specs.Prelude.{slice_index, nat_le, min}
use Rattle.std.specs.Bool.{Decides}
use Rattle.std.specs.List.{list_all, AllByRecursion}
use Rattle.std.proofs.lemmas.Bool.{leb-true, le-leb}
use Rattle.std.proofs.lemmas.Bool.Decides.{Decides-and, Decides-like}
use Rattle.std.proofs.lemmas.List.{length-append, length-replicate, length-map, get_or-map}
use Rattle.wasm_types.specs.declared.modules.Module.{Module}
use Rattle.wasm_types.specs.declared.modules.Body.{Body}
use Rattle.wasm_types.specs.declared.modules.Import.{Import}
use Rattle.wasm_types.specs.declared.modules.Limits.{Limits}
use Rattle.wasm_types.specs.declared.modules.MemoryType.{MemoryType}
use Rattle.wasm_types.specs.declared.modules.LocalGroup.{LocalGroup}
use Rattle.wasm_types.specs.Locals.{locals_in, locals_of}
use Rattle.wasm_types.specs.Limits.{Within, Fit, params_of}
use Rattle.validator.specs.Module.{rules}
use Rattle.validator.proofs.Ruled.{as_many_bodies}

pub decides_le : (a b : ℕ) → Decides (nat_le a b) (a ≤ b)
decides_le a b = (λ h. leb-true a b h, λ h. le-leb a b h)

pub all_decides : {X : Type 0} (p : X → Bool) (P : X → Type 0) → ((x : X) → Decides (p x) (P x)) → (xs : List X) → Decides (list_all p xs) (AllByRecursion P xs)
all_decides p P d [] = (λ h. tt, λ h. refl)
all_decides p P d (x ∷ xs) = Decides-and (p x) (list_all p xs) (d x) (all_decides p P d xs)

-- one function more
one_more_from : (ps : List ℕ) (bs : List Body) (n : ℕ) (dp : ℕ) (db : Body) → n < length ps → n < length bs
    → Fit 1024 (take n ps) (take n bs) × (get_or ps n dp + length (locals_of (get_or bs n db).locals) ≤ 1024) → Fit 1024 (take (suc n) ps) (take (suc n) bs)
one_more_from [] bs n dp db lp lb h = absurd (omega arith)
one_more_from (p ∷ ps) [] n dp db lp lb h = absurd (omega arith)
one_more_from (p ∷ ps) (b ∷ bs) zero dp db lp lb h = (h.1, tt)
one_more_from (p ∷ ps) (b ∷ bs) (suc n) dp db lp lb h = (h.0.0, one_more_from ps bs n dp db (omega arith) (omega arith) (h.0.1, h.1))

-- what each function has
fit_at : (ps : List ℕ) (bs : List Body) (n : ℕ) (dp : ℕ) (db : Body) → n < length ps → n < length bs → Fit 1024 ps bs → get_or ps n dp + length (locals_of (get_or bs n db).locals) ≤ 1024
fit_at [] bs n dp db lp lb h = absurd (omega arith)
fit_at (p ∷ ps) [] n dp db lp lb h = absurd (omega arith)
fit_at (p ∷ ps) (b ∷ bs) zero dp db lp lb h = h.0
fit_at (p ∷ ps) (b ∷ bs) (suc n) dp db lp lb h = fit_at ps bs n dp db (omega arith) (omega arith) h.1

-- the locals of one group more
group_next : (gs : List LocalGroup) (i : ℕ) (d : LocalGroup) → i < length gs → length (locals_of (take (suc i) gs)) ≡ length (locals_of (take i gs)) + (get_or gs i d).count
group_next [] i d lt = absurd (omega arith)
group_next (g ∷ gs) zero d lt = length-append (locals_in g) [] ∙ omega (arith, length-replicate g.count g.val_type)
group_next (g ∷ gs) (suc i) d lt =
    let h = group_next gs i d (omega arith) in
    let a = length-append (locals_in g) (locals_of (take (suc i) gs)) in
    let b = length-append (locals_in g) (locals_of (take i gs)) in
    omega (arith, a, b, h)

pub group_more : (gs : List LocalGroup) (i : ℕ) (d : LocalGroup) → i < length gs → length (locals_of (take (i + 1) gs)) ≡ length (locals_of (take i gs)) + (get_or gs i d).count
group_more gs i d lt = ap (λ (k : ℕ). length (locals_of (take k gs))) (add-one i) ∙ group_next gs i d lt

-- so many, counted up to the greatest number of 64 bits
abbrev pub Counted : ℕ → ℕ → List LocalGroup → Type 0
Counted count params gs = count ≡ min (params + length (locals_of gs)) 18446744073709551615

pub counted_more : (gs : List LocalGroup) (i params count more next : ℕ) (d : LocalGroup) → i < length gs → Counted count params (take i gs) → more ≡ (get_or gs i d).count
    → next ≡ min (count + more) 18446744073709551615 → Counted next params (take (i + 1) gs)
counted_more gs i params count more next d lt so_far is saturated = let g = group_more gs i d lt in omega (arith, g, so_far, is, saturated)

-- all limits
refuted : (m : Module) → (Within m → ⊥) → Decides false (Within m)
refuted m n = (λ h. absurd (no h), λ w. absurd (n w))
  where
    no : false ≡ true → ⊥
    no h = cc

none_past : {X : Type 0} (p : X → Bool) (P : X → Type 0) → ((x : X) → Decides (p x) (P x)) → (xs slice : List X) → slice ≡ xs → false ≡ list_all p slice → AllByRecursion P xs → ⊥
none_past p P d xs slice s b h =
    let k : list_all p xs ≡ true = (all_decides p P d xs).1 h in
    let q : false ≡ true = b ∙ ap (list_all p) s ∙ k in
    cc

all_within : {X : Type 0} (p : X → Bool) (P : X → Type 0) → ((x : X) → Decides (p x) (P x)) → (xs slice : List X) → slice ≡ xs → true ≡ list_all p slice → AllByRecursion P xs
all_within p P d xs slice s k = (all_decides p P d xs).0 (sym (k ∙ ap (list_all p) s))

pub past_imports : (m : Module) (slice : List Import) → slice ≡ m.imports → false ≡ list_all (λ i. nat_le i.memory.limits.minimum 256) slice → Decides false (Within m)
past_imports m slice s b = refuted m (λ w. none_past _ _ (λ x. decides_le x.memory.limits.minimum 256) m.imports slice s b w.imports)

pub past_tables : (m : Module) (slice : List Limits) → slice ≡ m.tables → false ≡ list_all (λ l. nat_le l.minimum 4096) slice → Decides false (Within m)
past_tables m slice s b = refuted m (λ w. none_past _ _ (λ x. decides_le x.minimum 4096) m.tables slice s b w.tables)

pub past_memories : (m : Module) (slice : List MemoryType) → slice ≡ m.memories → false ≡ list_all (λ y. nat_le y.limits.minimum 256) slice → Decides false (Within m)
past_memories m slice s b = refuted m (λ w. none_past _ _ (λ x. decides_le x.limits.minimum 256) m.memories slice s b w.memories)

pub within_decides : (m : Module) (source : List ℕ) (imports : List Import) (tables : List Limits) (memories : List MemoryType) (functions : Bool) → source ≡ m.source → imports ≡ m.imports → tables ≡ m.tables → memories ≡ m.memories
    → length source ≤ 1048576 → true ≡ list_all (λ i. nat_le i.memory.limits.minimum 256) imports → true ≡ list_all (λ l. nat_le l.minimum 4096) tables → true ≡ list_all (λ y. nat_le y.limits.minimum 256) memories
    → Decides functions (Fit 1024 (map (params_of m.types) m.functions) m.bodies) → Decides functions (Within m)
within_decides m source imports tables memories functions es ei et em s i t y f =
    Decides-like _
    (λ h. record {
      bytes = subst (λ xs. length xs ≤ 1048576) es s;
      imports = all_within _ _ (λ x. decides_le x.memory.limits.minimum 256) m.imports imports ei i;
      tables = all_within _ _ (λ x. decides_le x.minimum 4096) m.tables tables et t;
      memories = all_within _ _ (λ x. decides_le x.limits.minimum 256) m.memories memories em y;
      functions = h;
    })
    (λ w. w.functions)
    f

-- the parameters of a function whose body is there
params_at : (m : Module) (n params : ℕ) → rules m ≡ true → n < length m.bodies → params ≡ params_of m.types (slice_index m.functions n)
    → (n < length (map (params_of m.types) m.functions)) × (params ≡ get_or (map (params_of m.types) m.functions) n 0)
params_at m n params keeps lt p =
    let many = as_many_bodies m keeps in
    let there : n < length m.functions = omega (arith, many) in
    (omega (arith, there, length-map m.functions (params_of m.types)), p ∙ sym (get_or-map (params_of m.types) m.functions n 0 0 there))

pub function_more : (m : Module) (n params count : ℕ) (d0 : Body) → rules m ≡ true → n < length m.bodies → params ≡ params_of m.types (slice_index m.functions n)
    → count ≡ min (params + length (locals_of (get_or m.bodies n d0).locals)) 18446744073709551615 → count ≤ 1024
    → Fit 1024 (take n (map (params_of m.types) m.functions)) (take n m.bodies) → Fit 1024 (take (n + 1) (map (params_of m.types) m.functions)) (take (n + 1) m.bodies)
function_more m n params count d0 keeps lt p c few f =
    let at = params_at m n params keeps lt p in
    subst (λ (k : ℕ). Fit 1024 (take k (map (params_of m.types) m.functions)) (take k m.bodies)) (sym (add-one n))
    (one_more_from (map (params_of m.types) m.functions) m.bodies n 0 d0 at.0 lt (f, let q = at.1 in omega (arith, q)))

pub function_past : (m : Module) (n params count : ℕ) (d0 : Body) → rules m ≡ true → n < length m.bodies → params ≡ params_of m.types (slice_index m.functions n)
    → count ≡ min (params + length (locals_of (get_or m.bodies n d0).locals)) 18446744073709551615 → 1024 < count
    → Decides false (Fit 1024 (map (params_of m.types) m.functions) m.bodies)
function_past m n params count d0 keeps lt p c many =
    let at = params_at m n params keeps lt p in
    (λ h. absurd (no h), λ f. let k = fit_at (map (params_of m.types) m.functions) m.bodies n 0 d0 at.0 lt f in let q = at.1 in absurd (omega (arith, k, q)))
  where
    no : false ≡ true → ⊥
    no h = cc
