-- The trace of the log, the order, the breaks and the events that it was handed.
use Rattle.std.proofs.Common.{◌≡◌, ℕ, List, subst}
use Rattle.wasm_types.specs.declared.modules.Module.{Module}
use Rattle.thread_plan.specs.Plans.{PlanValue}
use Rattle.replica.specs.declared.log.Log.{Log}
use Rattle.debug_views.specs.Break.{Break}
use Rattle.debug_views.specs.Trace.{TraceAsked}
use Rattle.debug_views.specs.Traces.{IsTraceOfLog}
use Rattle.wasm_replay.specs.Replays.{IsOfRun}
use Rattle.command_words.specs.declared.requests.TraceRequest.{TraceRequest}
use Rattle.commands.specs.Traces.{last_break, asked_by, IsTraceText}

pub trace_of : (m : Module) (plan : PlanValue) (log handed : Log) (r : TraceRequest) (order : List ℕ) (breaks : List Break) (asked : TraceAsked) (text : List ℕ) → handed ≡ log → order ≡ r.replay.order.items → breaks ≡ last_break r.to → asked ≡ asked_by m r
    → IsOfRun m plan handed → IsTraceOfLog m plan handed order breaks asked text → IsTraceText m plan log r text
trace_of m plan log handed r order breaks asked text same_log same_order same_breaks same_asked of_run h = record {
  of_run = subst (IsOfRun m plan) same_log of_run;
  trace = subst (λ (l : Log). IsTraceOfLog m plan l r.replay.order.items (last_break r.to) (asked_by m r) text) same_log
      (subst (λ (o : List ℕ). IsTraceOfLog m plan handed o (last_break r.to) (asked_by m r) text) same_order
      (subst (λ (bs : List Break). IsTraceOfLog m plan handed order bs (asked_by m r) text) same_breaks
      (subst (λ (a : TraceAsked). IsTraceOfLog m plan handed order breaks a text) same_asked h)));
}
