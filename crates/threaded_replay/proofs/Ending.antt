-- What a replay from the beginning that was made says of the opening world by name.
use Rattle.std.proofs.Common.{◌≡◌, ℕ, List, Some, sym, ap, subst, ◌∙◌, refl, inl}
use Rattle.std.proofs.lemmas.Option.{same_Some}
use Rattle.wasm_types.specs.declared.key.Profile.{Profile}
use Rattle.wasm_types.specs.declared.modules.Module.{Module}
use Rattle.block_objects.specs.SharedMemory.{shared_memory}
use Rattle.block_objects.proofs.Laws.{memory_laws}
use Rattle.event_core.specs.End.{RunEnd}
use Rattle.wasm_world.specs.Plans.{PlanValue}
use Rattle.thread_words.specs.ThreadCode.{thread_code}
use Rattle.thread_words.proofs.Machine.{threads_are_machines}
use Rattle.replica.specs.declared.log.Log.{Log as GatheredLog}
use Rattle.replica.specs.Log.{key_of}
use Rattle.replay_laws.specs.Log.{Log}
use Rattle.replay_laws.specs.Finishing.{OrderedEnds}
use Rattle.replay_laws.proofs.Finishing.{finished_runs_are_ordered}
use Rattle.replay_gate.specs.declared.answers.ReplayFault.{ReplayFault}
use Rattle.replay_gate.specs.declared.answers.ReplayFault.TheVariants as fault
use Rattle.replay_gate.specs.Finished.{IsReplayEnd, IsReplayFault}
use Rattle.wasm_replay.specs.Replays.{EndsAsRecorded, IsOfRun, IsOrderedAnswer, gathered_log}
use Rattle.wasm_replay.specs.declared.replaying.WasmReplayFault.TheVariants as refusal
use Rattle.wasm_world.specs.Opening.{WasmWorld, opening_world_of}
use Rattle.threaded_replay.specs.Threaded.{IsThreadsEnd, IsThreadsRefusal}

pub no_memory : (log : Log) (w : WasmWorld) (f : ReplayFault) → f ≡ fault.NoMemory → IsReplayFault shared_memory thread_code log w f
no_memory log w f e = record { is = inl e; wants = λ picks finished. e }

module _ (m : Module) (plan : PlanValue) (profile : Profile) (log read : GatheredLog) (v : WasmWorld) (opens : opening_world_of m plan profile ≡ Some v) (same : read ≡ log) where
  is_opened : (w : WasmWorld) → opening_world_of m plan profile ≡ Some w → v ≡ w
  is_opened w e = same_Some v w (sym opens ∙ e)

  pub end_by_name : (end : RunEnd) → IsReplayEnd shared_memory thread_code (gathered_log read) v end → (w : WasmWorld) → opening_world_of m plan profile ≡ Some w → IsReplayEnd shared_memory thread_code (gathered_log log) w end
  end_by_name end h w e =
      subst (λ (x : WasmWorld). IsReplayEnd shared_memory thread_code (gathered_log log) x end) (is_opened w e)
      (subst (λ (l : GatheredLog). IsReplayEnd shared_memory thread_code (gathered_log l) v end) same h)

  pub fault_by_name : (f : ReplayFault) → IsReplayFault shared_memory thread_code (gathered_log read) v f → (w : WasmWorld) → opening_world_of m plan profile ≡ Some w → IsReplayFault shared_memory thread_code (gathered_log log) w f
  fault_by_name f h w e =
      subst (λ (x : WasmWorld). IsReplayFault shared_memory thread_code (gathered_log log) x f) (is_opened w e)
      (subst (λ (l : GatheredLog). IsReplayFault shared_memory thread_code (gathered_log l) v f) same h)

module _ (m : Module) (plan : PlanValue) (log : GatheredLog) where
  -- the profile is the log's
  pub threads_end : (profile : Profile) → profile ≡ (key_of log).profile → (end : RunEnd)
      → ((w : WasmWorld) → opening_world_of m plan profile ≡ Some w → IsReplayEnd shared_memory thread_code (gathered_log log) w end) → IsThreadsEnd m plan log end
  threads_end profile same end h w opens = h w (ap (opening_world_of m plan) same ∙ opens)

  pub threads_refusal : (profile : Profile) → profile ≡ (key_of log).profile → (f : ReplayFault) → IsOfRun m plan log
      → ((w : WasmWorld) → opening_world_of m plan profile ≡ Some w → IsReplayFault shared_memory thread_code (gathered_log log) w f) → IsThreadsRefusal m plan log (refusal.Replay f)
  threads_refusal profile same f of_run h = (of_run, λ w opens. h w (ap (opening_world_of m plan) same ∙ opens))

  -- an end by threads is that of the ordered replay in every order
  pub every_order : (end : RunEnd) → IsThreadsEnd m plan log end → (order : List ℕ) → IsOrderedAnswer m plan log order end
  every_order end h order w opens =
      let e = (h w opens).finished in
      subst (OrderedEnds shared_memory thread_code (gathered_log log) w order) (sym e.is)
      (finished_runs_are_ordered shared_memory thread_code memory_laws threads_are_machines w (gathered_log log) e.picks e.run order)

  pub as_recorded : (end : RunEnd) → IsThreadsEnd m plan log end → EndsAsRecorded m plan log end
  as_recorded end h = record {
    recorded = λ w opens picks run below. (h w opens).recorded picks run below;
    vouches = λ w opens. (h w opens).vouches;
  }
