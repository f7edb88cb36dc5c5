-- Requests while no run is open.
use Rattle.std.specs.Prelude.{◌≡◌, ℕ, Bool, true, false, List, [], ◌∷◌, codes}
use Rattle.adapter_messages.specs.declared.body.Body.TheVariants as body
use Rattle.adapter_messages.specs.declared.event.EventKind.TheVariants.{Initialized}
use Rattle.adapter_messages.specs.declared.parts.Capabilities.{Capabilities as Supported}
use Rattle.adapter_messages.specs.declared.request.Command.{Command}
use Rattle.adapter_messages.specs.declared.request.Command.TheVariants.{Initialize, Launch, Disconnect, Terminate, BadArguments}
use Rattle.adapter_messages.specs.declared.reply.Reply.{Reply}
use Rattle.adapter.specs.Replies.{bad_arguments, ended, failure, success}
use Rattle.adapter.specs.declared.waiting.Waiting.{Waiting}
use Rattle.adapter.specs.declared.waiting.Waiting.TheVariants.{ForLaunch, ForEnd}

-- what an adapter can do
abbrev pub supported : Supported
supported = record {
  configuration_done = true;
  function_breakpoints = true;
  step_back = true;
  data_breakpoints = true;
  read_memory = true;
  disassemble = true;
  instruction_breakpoints = true;
  terminate = true;
}

abbrev pub launch_first : List ℕ
launch_first = codes "error: launch first"

abbrev pub refused_before : List ℕ
refused_before = codes "error: a launch was refused before, start the adapter anew"

abbrev pub is_launch : Command → Bool
is_launch (Launch m plan pieces) = true
is_launch _ = false

-- the first launch is held back: it is answered by whoever opens the run
abbrev pub holds_back : Command → Waiting → Bool
holds_back c ForLaunch = is_launch c
holds_back c ForEnd = false

abbrev pub waiting_reply : Command → Reply
waiting_reply Initialize = success (body.Capabilities supported) []
waiting_reply Disconnect = ended body.Empty
waiting_reply Terminate = ended body.Empty
waiting_reply (Launch m plan pieces) = failure refused_before
waiting_reply BadArguments = failure bad_arguments
waiting_reply _ = failure launch_first

-- nothing changes
abbrev pub Waits : Command → Waiting → Reply → Waiting → Type 0
Waits c w r u = (r ≡ waiting_reply c) × (u ≡ w)

-- the reply to a launch whose run is open: breakpoints may be set then
abbrev pub launched_reply : Reply
launched_reply = success body.Empty (Initialized ∷ [])
