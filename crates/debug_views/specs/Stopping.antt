-- Where the replay of a gathered log stops, by an order, from the opening world of its module and plan.
use Rattle.std.specs.Prelude.{ℕ, List}
use Rattle.wasm_types.specs.declared.modules.Module.{Module}
use Rattle.block_objects.specs.SharedMemory.{shared_memory}
use Rattle.wasm_world.specs.Plans.{PlanValue}
use Rattle.wasm_world.specs.Opening.{WasmWorld}
use Rattle.wasm_world.specs.ThreadCode.{thread_code}
use Rattle.replica.specs.declared.log.Log.{Log as GatheredLog}
use Rattle.replay_gate.specs.declared.breaks.Break.{Break}
use Rattle.replay_gate.specs.declared.breaks.Stopped.{Stopped}
use Rattle.replay_gate.specs.Stops.{StopsAt}
use Rattle.wasm_replay.specs.Replays.{Opens, gathered_log}
use Rattle.debug_views.specs.Text.{IsShown}

module _ (m : Module) (plan : PlanValue) (log : GatheredLog) (order : List ℕ) (breaks : List Break) where
  -- the replay by the order from the opening world stops so, at world v
  abbrev pub Stops : WasmWorld → Stopped → Type 0
  Stops v s = (w : WasmWorld) → Opens m plan log w → StopsAt shared_memory thread_code (gathered_log log) w order breaks v s

  -- the same where the world is shown: at one of the breaks, or where no thread goes on
  pub record StopsToShow (v : WasmWorld) (s : Stopped) : Type 0 where
    pub stops : Stops v s
    pub shown : IsShown s breaks
