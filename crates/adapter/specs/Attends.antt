-- What an adapter does by requests, and what it answers.
use Rattle.std.specs.Prelude.{◌≡◌, ℕ, List, [], ◌∷◌, Option, Some, None, codes, length, slice_get}
use Rattle.adapter_messages.specs.declared.body.Body.TheVariants as body
use Rattle.adapter_messages.specs.declared.event.StopReason.TheVariants as reason
use Rattle.adapter_messages.specs.declared.request.Command.{Command}
use Rattle.adapter_messages.specs.declared.request.Command.TheVariants.{Initialize, Launch, ConfigurationDone, Threads, StackTrace, Scopes, Variables, ReadMemory, Disassemble, SetBreakpoints, SetFunctionBreakpoints, SetInstructionBreakpoints, DataBreakpointInfo, SetDataBreakpoints, SetExceptionBreakpoints, Move, Evaluate, Disconnect, Terminate, Unknown, BadArguments}
use Rattle.adapter_messages.specs.declared.reply.Reply.{Reply}
use Rattle.event_core.specs.Threads.{ThreadAt}
use Rattle.wasm_world.specs.SharedMemory.{shared_memory}
use Rattle.wasm_world.specs.Standing.{standing}
use Rattle.wasm_world.specs.ThreadCode.{ThreadAt as CodeThread}
use Rattle.debug_views.specs.Values.{memory_bytes}
use Rattle.debugger.specs.Lines.{line_of}
use Rattle.debugger.specs.Replies.{IsLed}
use Rattle.adapter.specs.Breakpoints.{SetsData, SetsFunctions, SetsInstructions, breakpoints_reply, info_reply, no_sources, none_of}
use Rattle.adapter.specs.Disassembly.{Disassembles}
use Rattle.adapter.specs.Evaluates.{EvaluatesLine}
use Rattle.adapter.specs.Frames.{threads_below, trace_of}
use Rattle.adapter.specs.Ids.{thread_of}
use Rattle.adapter.specs.Memory.{memory_reply}
use Rattle.adapter.specs.Moves.{MovesBy, no_thread}
use Rattle.adapter.specs.Replies.{bad_arguments, ended, failure, stopped, success}
use Rattle.adapter.specs.State.{AdapterAt}
use Rattle.adapter.specs.Variables.{scopes_reply, variables_reply}

-- that is answered, and nothing changed
abbrev pub Says : Reply → AdapterAt → Reply → AdapterAt → Type 0
Says reply s r u = (r ≡ reply) × (u ≡ s)

-- the same of the world to which the way leads: on a log below that of a run its values and threads are recorded ones
abbrev pub Shows : Reply → AdapterAt → Reply → AdapterAt → Type 0
Shows reply s r u = IsLed s.debugger × Says reply s r u

-- the frames of a thread, if there is one
abbrev pub trace_if : (source : List ℕ) → (thread start levels : ℕ) → Option (ThreadAt CodeThread) → Reply
trace_if source thread start levels None = failure no_thread
trace_if source thread start levels (Some t) = success (trace_of source thread start levels (standing t.state.state)) []

abbrev pub stack_reply : AdapterAt → (start levels : ℕ) → (thread : Option ℕ) → Reply
stack_reply s start levels None = failure no_thread
stack_reply s start levels (Some thread) = trace_if s.debugger.code.source thread start levels (slice_get s.debugger.world.threads thread)

abbrev pub thread_by : AdapterAt → (id : ℕ) → Option ℕ
thread_by s id = thread_of (length s.debugger.world.threads) id

abbrev pub launched_already : List ℕ
launched_already = codes "error: launched already"

abbrev pub not_supported : List ℕ
not_supported = codes "error: not supported"

abbrev pub Attends : Command → AdapterAt → Reply → AdapterAt → Type 0
Attends Initialize s r u = Says (failure launched_already) s r u
Attends (Launch m plan pieces) s r u = Says (failure launched_already) s r u
Attends ConfigurationDone s r u = Says (success body.Empty (stopped reason.Entry 1 ∷ [])) s r u
Attends Threads s r u = Shows (success (body.Threads (threads_below (length s.debugger.world.threads))) []) s r u
Attends (StackTrace id start levels) s r u = Shows (stack_reply s start levels (thread_by s id)) s r u
Attends (Scopes frame) s r u = Shows (scopes_reply s frame) s r u
Attends (Variables reference) s r u = Shows (variables_reply s reference) s r u
Attends (ReadMemory reference offset count) s r u = Shows (memory_reply (memory_bytes shared_memory s.debugger.world) reference offset count) s r u
Attends (Disassemble reference offset instructions count) s r u = Disassembles s.debugger.code (record { reference = reference; offset = offset }) instructions count r × (u ≡ s)
Attends (SetBreakpoints count) s r u = Says (breakpoints_reply no_sources (none_of count)) s r u
Attends (SetFunctionBreakpoints names) s r u = SetsFunctions names s r u
Attends (SetInstructionBreakpoints asked) s r u = SetsInstructions asked s r u
Attends (DataBreakpointInfo name reference) s r u = Says (info_reply name) s r u
Attends (SetDataBreakpoints ids) s r u = SetsData ids s r u
Attends SetExceptionBreakpoints s r u = Says (success body.Empty []) s r u
Attends (Move kind id) s r u = MovesBy kind id (thread_by s id) s r u
Attends (Evaluate expression) s r u = EvaluatesLine (line_of expression) s r u
Attends Disconnect s r u = Says (ended body.Empty) s r u
Attends Terminate s r u = Says (ended body.Empty) s r u
Attends Unknown s r u = Says (failure not_supported) s r u
Attends BadArguments s r u = Says (failure bad_arguments) s r u
