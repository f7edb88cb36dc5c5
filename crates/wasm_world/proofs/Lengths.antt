-- A memory begins with no more pages than it can have.
use Rattle.std.proofs.Common.{◌≡◌, ℕ, ◌≤◌, true, ◌&&◌, Bool, Option, Some, None, refl, sym, ◌∙◌, ap, subst, slice_get, arith, List, [], ◌∷◌, ◌++◌, map}
use Rattle.std.specs.Prelude.{nat_le}
use Rattle.std.specs.List.{list_all, AllByRecursion}
use Rattle.std.proofs.lemmas.Bool.{leb-true}
use Rattle.wasm_types.specs.declared.key.Profile.{Profile}
use Rattle.wasm_types.specs.declared.key.Profile.TheVariants.{One, Two}
use Rattle.wasm_types.specs.declared.modules.Module.{Module}
use Rattle.wasm_types.specs.declared.modules.Import.{Import}
use Rattle.wasm_types.specs.declared.modules.MemoryType.{MemoryType}
use Rattle.wasm_types.specs.Limits.{Within}
use Rattle.validator.specs.Module.{rules, memories_fit, memory_fits, import_fits, is_at_least, is_at_most}
use Rattle.validator.specs.Valid.{WellTyped, fits_profile, is_small, import_is_small, has_no_low_extension}
use Rattle.validator.proofs.Ruled.{both}
use Rattle.validator.proofs.Small.{all_decides, decides_le}
use Rattle.wasm_types.specs.Memories.{first_memory, most_pages, capacity_by, initial_by, declared_maximum}
use Rattle.wasm_world.specs.Opening.{limits_in}

-- what holds of imported and own memories holds of the first
of_first : (P : MemoryType → Type 0) (is : List Import) (ys : List MemoryType) (memory : MemoryType) → slice_get (map (λ (i : Import). i.memory) is ++ ys) 0 ≡ Some memory
    → AllByRecursion (λ (i : Import). P i.memory) is → AllByRecursion P ys → P memory
of_first P [] [] memory at i y = absurd cc
of_first P [] (x ∷ ys) memory at i y = let same : x ≡ memory = cc in subst P same y.0
of_first P (x ∷ is) ys memory at i y = let same : x.memory ≡ memory = cc in subst P same i.0

memories_rule : (m : Module) → rules m ≡ true → memories_fit m ≡ true
memories_rule m h = (both _ (memories_fit m) (both _ _ (both _ _ (both _ _ (both _ _ (both _ _ h).0).0).0).0).0).1

fits : (m : Module) (memory : MemoryType) → rules m ≡ true → first_memory m ≡ Some memory → memory_fits memory ≡ true
fits m memory h at =
    let r = memories_rule m h in
    of_first (λ y. memory_fits y ≡ true) m.imports m.memories memory at
    ((all_decides import_fits (λ i. memory_fits i.memory ≡ true) (λ i. (λ e. e, λ e. e)) m.imports).0 (both _ (list_all import_fits m.imports) (both _ (list_all memory_fits m.memories) r).0).1)
    ((all_decides memory_fits (λ y. memory_fits y ≡ true) (λ y. (λ e. e, λ e. e)) m.memories).0 (both _ (list_all memory_fits m.memories) r).1)

few : (m : Module) (profile : Profile) (memory : MemoryType) → Within m → fits_profile m profile ≡ true → first_memory m ≡ Some memory → memory.limits.minimum ≤ most_pages profile
few m One memory w f at =
    let small = both (list_all import_is_small m.imports && list_all is_small m.memories) (list_all has_no_low_extension m.bodies) f in
    let each = both (list_all import_is_small m.imports) (list_all is_small m.memories) small.0 in
    of_first (λ y. y.limits.minimum ≤ 16) m.imports m.memories memory at
    ((all_decides import_is_small (λ i. i.memory.limits.minimum ≤ 16) (λ i. decides_le i.memory.limits.minimum 16) m.imports).0 each.0)
    ((all_decides is_small (λ y. y.limits.minimum ≤ 16) (λ y. decides_le y.limits.minimum 16) m.memories).0 each.1)
few m (Two block) memory w f at = of_first (λ y. y.limits.minimum ≤ 256) m.imports m.memories memory at w.imports w.memories

most_is_small : (profile : Profile) → most_pages profile ≤ 256
most_is_small One = omega arith
most_is_small (Two block) = omega arith

below_maximum : (maximum : Option ℕ) (minimum : ℕ) → minimum ≤ 256 → is_at_least maximum minimum ≡ true → minimum ≤ declared_maximum maximum
below_maximum None minimum small h = omega arith
below_maximum (Some most) minimum small h = leb-true _ _ h

first_is_least : (memory : MemoryType) → memory_fits memory ≡ true → is_at_least memory.limits.maximum memory.limits.minimum ≡ true
first_is_least memory h = (both (is_at_least memory.limits.maximum memory.limits.minimum) _ (both _ _ (both _ _ h).0).0).0

starts_by : (m : Module) (profile : Profile) (o : Option MemoryType) → first_memory m ≡ o → rules m ≡ true → Within m → fits_profile m profile ≡ true → initial_by o ≤ capacity_by profile o
starts_by m profile None at h w f = omega arith
starts_by m profile (Some memory) at h w f =
    let low = few m profile memory w f at in
    let least = below_maximum memory.limits.maximum memory.limits.minimum (let s = most_is_small profile in omega arith) (first_is_least memory (fits m memory h at)) in
    omega arith

pub starts_within : (m : Module) (profile : Profile) → rules m ≡ true → Within m → fits_profile m profile ≡ true → (limits_in m profile).initial ≤ (limits_in m profile).capacity
starts_within m profile h w f = starts_by m profile (first_memory m) refl h w f
