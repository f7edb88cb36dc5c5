-- The limits of modules here.
use Rattle.std.specs.Prelude.{ℕ, ◌+◌, ◌≤◌, List, [], ◌∷◌, length, Option, Some, None, slice_get, map}
use Rattle.std.specs.List.{AllByRecursion}
use Rattle.wasm_types.specs.Locals.{locals_of}
use Rattle.wasm_types.specs.declared.modules.FuncType.{FuncType}
use Rattle.wasm_types.specs.declared.modules.Body.{Body}
use Rattle.wasm_types.specs.declared.modules.Module.{Module}

-- how many parameters a type has; none where there is no such type
abbrev pub params_in : Option FuncType → ℕ
params_in None = 0
params_in (Some f) = length f.params

abbrev pub params_of : List FuncType → ℕ → ℕ
params_of types index = params_in (slice_get types index)

-- the parameters and locals of each function are at most so many
abbrev pub Fit : ℕ → List ℕ → List Body → Type 0
Fit most (params ∷ others) (b ∷ bs) = (params + length (locals_of b.locals) ≤ most) × Fit most others bs
Fit most [] bs = Unit {0}
Fit most (params ∷ others) [] = Unit {0}

pub record Within (m : Module) : Type 0 where
  pub bytes : length m.source ≤ 1048576
  pub imports : AllByRecursion (λ i. i.memory.limits.minimum ≤ 256) m.imports
  pub tables : AllByRecursion (λ l. l.minimum ≤ 4096) m.tables
  pub memories : AllByRecursion (λ y. y.limits.minimum ≤ 256) m.memories
  pub functions : Fit 1024 (map (params_of m.types) m.functions) m.bodies
