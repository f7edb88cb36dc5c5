-- A replay that is made again up to a step of a thread.
use Rattle.std.proofs.Common.{◌≡◌, ℕ, zero, suc, List, [], ◌∷◌, refl}
use Rattle.wasm_types.specs.declared.modules.Module.{Module}
use Rattle.wasm_world.specs.Plans.{PlanValue}
use Rattle.wasm_world.specs.Opening.{WasmWorld}
use Rattle.replica.specs.declared.log.Log.{Log as GatheredLog}
use Rattle.replay_gate.specs.OneStop.{HadMemory}
use Rattle.replay_gate.specs.declared.breaks.Break.TheVariants as break
use Rattle.replay_gate.specs.declared.breaks.Stopped.{Stopped}
use Rattle.wasm_replay.specs.Replays.{Opens}
use Rattle.debug_views.specs.Stopping.{Stops}
use Rattle.debug_views.specs.ThreadNotes.{IsAtStep}

module _ (m : Module) (plan : PlanValue) (log : GatheredLog) (order : List ℕ) (t : ℕ) (v : WasmWorld) where
  pub at_none : (steps : ℕ) → steps ≡ 0 → ((w : WasmWorld) → Opens m plan log w → v ≡ w) → IsAtStep m plan log order t steps v
  at_none zero e h = h
  at_none (suc n) e h = absurd (let no : suc n ≡ 0 = e in cc)

  pub at_some : (steps : ℕ) → (steps ≡ 0 → ⊥) → (s : Stopped) → Stops m plan log order (break.Step t steps ∷ []) v s → HadMemory s → IsAtStep m plan log order t steps v
  at_some zero some s stops had = absurd (some refl)
  at_some (suc n) some s stops had = (s, stops, had)
