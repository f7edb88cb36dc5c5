-- What a module and a plan open is an opening world.
use Rattle.std.specs.Prelude.{◌≡◌, Option, Some, None}
use Rattle.std.proofs.Common.{refl, arith}
use Rattle.wasm_types.specs.declared.key.Profile.{Profile}
use Rattle.wasm_types.specs.declared.modules.Module.{Module}
use Rattle.event_core.specs.Opening.{IsOpeningWorld}
use Rattle.wasm_world.specs.Plans.{PlanValue}
use Rattle.wasm_world.specs.ThreadCode.{thread_code}
use Rattle.wasm_world.specs.Opening.{WasmWorld, opening_world_of}
use Rattle.wasm_world.proofs.Begun.{opens as world_opens}
use Rattle.wasm_replay.specs.Replays.{world_or_empty, opened_world, Suits}

by_world : (m : Module) (plan : PlanValue) (profile : Profile) (o : Option WasmWorld) → Suits m plan profile → opening_world_of m plan profile ≡ o → IsOpeningWorld thread_code (world_or_empty m profile o)
by_world m plan profile None s e = record { few = omega arith; fresh = λ t thread at. absurd cc; no_places = λ t thread at. absurd cc; no_counts = λ o. refl }
by_world m plan profile (Some w) s e = world_opens m plan profile w s.plan_of s.block e

pub opens : (m : Module) (plan : PlanValue) (profile : Profile) → Suits m plan profile → IsOpeningWorld thread_code (opened_world m plan profile)
opens m plan profile s = by_world m plan profile (opening_world_of m plan profile) s refl
