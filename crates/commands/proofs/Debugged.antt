-- How a dialogue about the log in files is shown, and how it stops.
use Rattle.std.proofs.Common.{◌≡◌, ℕ, List, Result, Ok, Err, OnOk, IfErr, inl, inr, subst}
use Rattle.wasm_types.specs.declared.modules.Module.{Module}
use Rattle.thread_plan.specs.Plans.{PlanValue}
use Rattle.replica.specs.declared.log.Log.{Log}
use Rattle.wasm_replay.specs.Replays.{IsOfRun}
use Rattle.debugger.specs.Dialogue.{IsShownDialogue, IsDialogueStopped}
use Rattle.debugger.specs.declared.debugging.DebugFault.{DebugFault}
use Rattle.debugger.specs.declared.debugging.DebugFault.TheVariants as debugging
use Rattle.command_words.specs.declared.requests.ReplayRequest.{ReplayRequest}
use Rattle.commands.specs.Replays.{IsReplayInput}
use Rattle.commands.specs.Debugs.{IsBroken, IsShownDebug, IsDebugStopped}
use Rattle.commands.specs.declared.fault.Fault.{Fault}

module _ (brought : List ℕ → Type 0) (ended : Type 0) (took : List ℕ → Type 0) (holds : List ℕ → List ℕ → Type 0) (request : ReplayRequest) where
  -- the dialogue about the log that was read, by the order that is asked for, is that about the log in the files
  module _ (m : Module) (plan : PlanValue) (log : Log) (input : IsReplayInput holds request m plan log) (order : List ℕ) (same : order ≡ request.order.items) {T : Type 0} (result : Result T Fault) where
    pub shown_of : OnOk result (IsOfRun m plan log) → OnOk result (IsShownDialogue m plan log order brought ended took) → OnOk result (IsShownDebug brought ended holds took request)
    shown_of of_run shown = go result of_run (subst (λ o. OnOk result (IsShownDialogue m plan log o brought ended took)) same shown)
      where
        go : (r : Result T Fault) → OnOk r (IsOfRun m plan log) → OnOk r (IsShownDialogue m plan log request.order.items brought ended took) → OnOk r (IsShownDebug brought ended holds took request)
        go (Ok x) of_run shown = (shown.0, record { m = m; plan = plan; log = log; input = input; of_run = of_run; dialogue = shown.1 }, shown.2)
        go (Err fault) of_run shown = tt

    pub stopped_of : (fails : List ℕ → Type 0) (unused broke unwritable : Type 0) → IfErr result (IsBroken brought ended took unused broke unwritable m plan log order)
        → IfErr result (IsDebugStopped brought ended took holds fails unused broke unwritable request)
    stopped_of fails unused broke unwritable stopped = go result (subst (λ o. IfErr result (IsBroken brought ended took unused broke unwritable m plan log o)) same stopped)
      where
        go : (r : Result T Fault) → IfErr r (IsBroken brought ended took unused broke unwritable m plan log request.order.items) → IfErr r (IsDebugStopped brought ended took holds fails unused broke unwritable request)
        go (Ok x) h = tt
        go (Err fault) h = inr (m, plan, log, input, h)

  -- it stops so where less is said of what stays unused
  module _ (fails : List ℕ → Type 0) (unused unwritten broke unwritable : Type 0) (less : unused → unwritten) where
    fewer : (m : Module) (plan : PlanValue) (log : Log) (stop : DebugFault) → IsDialogueStopped m plan log request.order.items brought ended took unused broke unwritable stop → IsDialogueStopped m plan log request.order.items brought ended took unwritten broke unwritable stop
    fewer m plan log (debugging.Replay refused) h = (less h.0, h.1)
    fewer m plan log debugging.SourceFailed h = h
    fewer m plan log debugging.SinkFailed h = h

    pub unwritten_of : (fault : Fault) → IsDebugStopped brought ended took holds fails unused broke unwritable request fault → IsDebugStopped brought ended took holds fails unwritten broke unwritable request fault
    unwritten_of fault (inl h) = inl (h.0, less h.1)
    unwritten_of fault (inr h) = inr (h.0, h.1, h.2, h.3, (h.4.0, h.4.1, fewer h.0 h.1 h.2 h.4.0 h.4.2))
