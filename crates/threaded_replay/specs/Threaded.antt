-- Replays of gathered logs by threads, from the opening world of a module and a plan.
use Rattle.wasm_types.specs.declared.modules.Module.{Module}
use Rattle.block_objects.specs.SharedMemory.{shared_memory}
use Rattle.event_core.specs.End.{RunEnd}
use Rattle.wasm_world.specs.Plans.{PlanValue}
use Rattle.thread_words.specs.ThreadCode.{thread_code}
use Rattle.replica.specs.declared.log.Log.{Log as GatheredLog}
use Rattle.replay_gate.specs.Finished.{IsReplayEnd, IsReplayFault}
use Rattle.wasm_replay.specs.Replays.{IsOfRun, IsOfNoRun, Opens, gathered_log}
use Rattle.wasm_replay.specs.declared.replaying.WasmReplayFault.{WasmReplayFault}
use Rattle.wasm_replay.specs.declared.replaying.WasmReplayFault.TheVariants as refusal
use Rattle.wasm_world.specs.Opening.{WasmWorld}

module _ (m : Module) (plan : PlanValue) (log : GatheredLog) where
  -- the end of a finished gated run from the opening world
  abbrev pub IsThreadsEnd : RunEnd → Type 0
  IsThreadsEnd end = (w : WasmWorld) → Opens m plan log w → IsReplayEnd shared_memory thread_code (gathered_log log) w end

  -- the log is of no run of this module and plan; or memory is wanting, or it is the fault of some gated run from the
  -- opening world, which comes only where none is finished
  abbrev pub IsThreadsRefusal : WasmReplayFault → Type 0
  IsThreadsRefusal refusal.OtherRun = IsOfNoRun m plan log refusal.OtherRun
  IsThreadsRefusal refusal.OldProfile = IsOfNoRun m plan log refusal.OldProfile
  IsThreadsRefusal (refusal.Replay f) = IsOfRun m plan log × ((w : WasmWorld) → Opens m plan log w → IsReplayFault shared_memory thread_code (gathered_log log) w f)
