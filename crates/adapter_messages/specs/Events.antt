-- Events: Debug Adapter Protocol, "Base Protocol", "Event", and "Events"
-- (https://microsoft.github.io/debug-adapter-protocol/specification#Events).
use Rattle.std.specs.Prelude.{◌≡◌, ℕ, List, [], ◌∷◌, Bool, false, ◌||◌, codes}
use Rattle.std.proofs.Common.{refl, ap}
use Rattle.serde_json.specs.Data.{Data, boolean, string}
use Rattle.serde_json.specs.Written.{has_float}
use Rattle.adapter_messages.specs.Json.{fields, natural}
use Rattle.adapter_messages.specs.declared.event.Category.{Category}
use Rattle.adapter_messages.specs.declared.event.Category.TheVariants.{Console, Important, Stdout, Stderr}
use Rattle.adapter_messages.specs.declared.event.Event.{Event}
use Rattle.adapter_messages.specs.declared.event.EventKind.{EventKind}
use Rattle.adapter_messages.specs.declared.event.EventKind.TheVariants.{Initialized, Stopped, Terminated, Exited, Output}
use Rattle.adapter_messages.specs.declared.event.StopReason.{StopReason}
use Rattle.adapter_messages.specs.declared.event.StopReason.TheVariants as reason

abbrev pub reason_name : StopReason → List ℕ
reason_name reason.Entry = codes "entry"
reason_name reason.Step = codes "step"
reason_name reason.Breakpoint = codes "breakpoint"
reason_name reason.FunctionBreakpoint = codes "function breakpoint"
reason_name reason.DataBreakpoint = codes "data breakpoint"
reason_name reason.InstructionBreakpoint = codes "instruction breakpoint"
reason_name reason.Pause = codes "pause"
reason_name reason.Exception = codes "exception"

abbrev pub category_name : Category → List ℕ
category_name Console = codes "console"
category_name Important = codes "important"
category_name Stdout = codes "stdout"
category_name Stderr = codes "stderr"

abbrev pub event_name : EventKind → List ℕ
event_name Initialized = codes "initialized"
event_name (Stopped why thread all_threads) = codes "stopped"
event_name Terminated = codes "terminated"
event_name (Exited exit_code) = codes "exited"
event_name (Output category text) = codes "output"

abbrev pub event_body : EventKind → Data
event_body Initialized = fields []
event_body (Stopped why thread all_threads) = fields ((codes "reason", string (reason_name why)) ∷ (codes "threadId", natural thread) ∷ (codes "allThreadsStopped", boolean all_threads) ∷ [])
event_body Terminated = fields []
event_body (Exited exit_code) = fields ((codes "exitCode", natural exit_code) ∷ [])
event_body (Output category text) = fields ((codes "category", string (category_name category)) ∷ (codes "output", string text) ∷ [])

abbrev pub event_json : Event → Data
event_json e = fields ((codes "seq", natural e.seq) ∷ (codes "type", string (codes "event")) ∷ (codes "event", string (event_name e.kind)) ∷ (codes "body", event_body e.kind) ∷ [])

kind_no_float : (k : EventKind) → has_float (event_body k) ≡ false
kind_no_float Initialized = refl
kind_no_float (Stopped why thread all_threads) = refl
kind_no_float Terminated = refl
kind_no_float (Exited exit_code) = refl
kind_no_float (Output category text) = refl

pub event_no_float : (e : Event) → has_float (event_json e) ≡ false
event_no_float e = ap (λ (b : Bool). b || false) (kind_no_float e.kind)
