-- The answers of a replay, of the log and the order that it was handed.
use Rattle.std.proofs.Common.{◌≡◌, ℕ, List, subst}
use Rattle.wasm_types.specs.declared.modules.Module.{Module}
use Rattle.wasm_record.specs.End.{RunEnd}
use Rattle.thread_plan.specs.Plans.{PlanValue}
use Rattle.replica.specs.declared.log.Log.{Log}
use Rattle.wasm_replay.specs.declared.replaying.WasmReplayFault.{WasmReplayFault}
use Rattle.wasm_replay.specs.Replays.{IsOrderedAnswer, EndsAsRecorded, IsRefusal}
use Rattle.commands.specs.Replays.{IsReplayEnd}

module _ (m : Module) (plan : PlanValue) (log handed : Log) (order wanted : List ℕ) (same_log : handed ≡ log) (same_order : wanted ≡ order) where
  pub end_of : (end : RunEnd) → IsOrderedAnswer m plan handed wanted end → EndsAsRecorded m plan handed end → IsReplayEnd m plan log order end
  end_of end h k = record {
    ordered = subst (λ (l : Log). IsOrderedAnswer m plan l order end) same_log (subst (λ (o : List ℕ). IsOrderedAnswer m plan handed o end) same_order h);
    recorded = subst (λ (l : Log). EndsAsRecorded m plan l end) same_log k;
  }

  pub refusal_of : (fault : WasmReplayFault) → IsRefusal m plan handed wanted fault → IsRefusal m plan log order fault
  refusal_of fault h = subst (λ (l : Log). IsRefusal m plan l order fault) same_log (subst (λ (o : List ℕ). IsRefusal m plan handed o fault) same_order h)
