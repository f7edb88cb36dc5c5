-- Every plan of a well typed module has an opening world.
use Rattle.std.proofs.Common.{◌≡◌, ℕ, ◌+◌, List, [], ◌∷◌, Option, Some, None, refl, ap, ap₂, map, arith}
use Rattle.std.specs.Prelude.{option_map}
use Rattle.std.specs.List.{All}
use Rattle.std.proofs.lemmas.List.Elements.{All-tail}
use Rattle.wasm_types.specs.declared.key.Profile.{Profile}
use Rattle.wasm_types.specs.declared.modules.Module.{Module}
use Rattle.validator.specs.Valid.{WellTyped}
use Rattle.event_core.specs.Threads.{opening_thread}
use Rattle.thread_plan.specs.Plans.{PlanValue, IsPlanOf, IsThreadOf}
use Rattle.thread_plan.specs.declared.planned_thread.PlannedThread.{PlannedThread}
use Rattle.thread_words.specs.Opening.{instance_of}
use Rattle.thread_words.specs.ThreadCode.{ThreadAt}
use Rattle.integer_machine.proofs.Counting.{opens}
use Rattle.wasm_world.specs.Opening.{WasmWorld, with_thread, opening_threads, opening_memory, opening_world_of}

all_open : (m : Module) (profile : Profile) (number : ℕ) (ps : List PlannedThread) → WellTyped m → All (IsThreadOf m) ps → (ts : List ThreadAt) × (opening_threads m profile number ps ≡ Some ts)
all_open m profile number [] w all = ([], refl)
all_open m profile number (p ∷ ps) w all =
    let t : IsThreadOf m p = all 0 p (omega arith) in
    let first = opens m p.function t.kind p.arguments w t.has_type in
    let others = all_open m profile (number + 1) ps w (All-tail (IsThreadOf m) p ps all) in (
      record { within = m; instance = instance_of m profile number; state = first.0; steps = 0 } ∷ others.0,
      ap₂ with_thread (ap (option_map (λ s. record { within = m; instance = instance_of m profile number; state = s; steps = 0 })) first.1) others.1,
    )

pub plan_opens : (m : Module) (plan : PlanValue) (profile : Profile) → WellTyped m → IsPlanOf m plan → (w : WasmWorld) × (opening_world_of m plan profile ≡ Some w)
plan_opens m plan profile w is =
    let ts = all_open m profile 0 plan.threads w is.threads in (
      record { threads = map opening_thread ts.0; memory = opening_memory m profile },
      ap (option_map (λ threads. record { threads = map opening_thread threads; memory = opening_memory m profile })) ts.1,
    )
