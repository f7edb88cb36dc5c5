-- The scopes of a frame, and their variables: Debug Adapter Protocol, "Requests", "Scopes" and "Variables".
use Rattle.std.specs.Prelude.{ℕ, ◌+◌, ◌*◌, ◌-◌, ◌/◌, ◌%◌, ◌==◌, ◌&&◌, Bool, nat_lt, nat_le, List, [], ◌∷◌, ◌++◌, Option, Some, None, codes, reverse, slice_get, if◌then◌else◌}
use Rattle.std.specs.Fmt.{decimal}
use Rattle.wasm_types.specs.declared.value.Value.{Value}
use Rattle.wasm_types.specs.Text.{value_text}
use Rattle.rw_objects.specs.declared.count.Count.{Count}
use Rattle.rw_objects.specs.declared.entry.Entry.{Entry}
use Rattle.log_pieces.specs.declared.flat.Flat.{Flat}
use Rattle.adapter_messages.specs.declared.body.Body.TheVariants.{Scopes, Variables}
use Rattle.adapter_messages.specs.declared.parts.Scope.{Scope}
use Rattle.adapter_messages.specs.declared.parts.Variable.{Variable}
use Rattle.adapter_messages.specs.declared.reply.Reply.{Reply}
use Rattle.event_core.specs.Threads.{ThreadAt}
use Rattle.wasm_world.specs.CodePlace.{CodePlace}
use Rattle.wasm_world.specs.Standing.{standing, locals_at, operands_at}
use Rattle.wasm_world.specs.ThreadCode.{ThreadAt as CodeThread}
use Rattle.wasm_replay.specs.Replays.{gathered_log}
use Rattle.debug_views.specs.TraceLines.{number_text}
use Rattle.debugger.specs.Replies.{DebugAt}
use Rattle.adapter.specs.declared.frames.TheConstants.{MOST_FRAMES}
use Rattle.adapter.specs.Numbered.{numbered}
use Rattle.adapter.specs.Replies.{failure, success}
use Rattle.adapter.specs.State.{AdapterAt}
use Rattle.adapter.specs.Versions.{versions_of}

-- the thread and the depth of a frame, by its id
abbrev pub frame_thread : (frame : ℕ) → ℕ
frame_thread frame = (frame - 1) % 16

abbrev pub frame_depth : (frame : ℕ) → ℕ
frame_depth frame = (frame - 1) / 16

-- the references of the locals and the operands of a frame, and of the versions for its thread
abbrev pub locals_reference : (frame : ℕ) → ℕ
locals_reference frame = 3 * frame

abbrev pub operands_reference : (frame : ℕ) → ℕ
operands_reference frame = 3 * frame + 1

abbrev pub versions_reference : (frame : ℕ) → ℕ
versions_reference frame = 3 * frame + 2

-- an id that a frame may have
abbrev pub is_frame : (frame : ℕ) → Bool
is_frame frame = nat_lt 0 frame && nat_le frame (16 * MOST_FRAMES)

abbrev pub no_frame : List ℕ
no_frame = codes "error: no such frame"

-- ---- scopes

abbrev pub scope : List ℕ → (reference : ℕ) → Scope
scope name reference = record { name = name; reference = reference }

abbrev pub scopes_of : (frame : ℕ) → Option CodePlace → Reply
scopes_of frame None = failure no_frame
scopes_of frame (Some p) = success (Scopes (scope (codes "Locals") (locals_reference frame) ∷ scope (codes "Operands") (operands_reference frame) ∷ scope (codes "Versions") (versions_reference frame) ∷ [])) []

abbrev pub scopes_in : (frame : ℕ) → Option (ThreadAt CodeThread) → Reply
scopes_in frame None = failure no_frame
scopes_in frame (Some t) = scopes_of frame (slice_get (standing t.state.state) (frame_depth frame))

-- three scopes of a frame, where a thread is in that function
abbrev pub scopes_reply : AdapterAt → (frame : ℕ) → Reply
scopes_reply s frame = if is_frame frame then scopes_in frame (slice_get s.debugger.world.threads (frame_thread frame)) else failure no_frame

-- ---- variables

-- `local N` is `i32 5`
abbrev pub local_item : ℕ → Value → Variable
local_item n v = record { name = codes "local " ++ decimal n; value = value_text v; reference = 0 }

-- `operand N` is `5`, the topmost one has number 0
abbrev pub operand_item : ℕ → (bits : ℕ) → Variable
operand_item n bits = record { name = codes "operand " ++ decimal n; value = number_text bits; reference = 0 }

abbrev pub locals_of : Option (List Value) → Reply
locals_of None = failure no_frame
locals_of (Some values) = success (Variables (numbered local_item 0 values)) []

abbrev pub operands_of : Option (List ℕ) → Reply
operands_of None = failure no_frame
operands_of (Some words) = success (Variables (numbered operand_item 0 (reverse words))) []

-- of a thread that is in a function there
abbrev pub versions_if : (counts : ℕ → Count) → Option (Flat Entry) → Option CodePlace → Reply
versions_if counts item None = failure no_frame
versions_if counts item (Some p) = success (Variables (versions_of counts item)) []

-- what the log has of a thread's next event
abbrev pub next_entry : DebugAt → (thread : ℕ) → ThreadAt CodeThread → Option (Flat Entry)
next_entry s thread t = (gathered_log s.log).entry thread t.places

-- the variables of a scope of a frame, by what is left of its reference
abbrev pub variables_of : DebugAt → (frame left : ℕ) → ThreadAt CodeThread → Reply
variables_of s frame left t =
    if left == 0 then locals_of (locals_at t.state.state (frame_depth frame))
    else if left == 1 then operands_of (operands_at t.state.state (frame_depth frame))
    else versions_if s.world.memory.counts (next_entry s (frame_thread frame) t) (slice_get (standing t.state.state) (frame_depth frame))

abbrev pub variables_in : DebugAt → (reference : ℕ) → Option (ThreadAt CodeThread) → Reply
variables_in s reference None = failure no_frame
variables_in s reference (Some t) = variables_of s (reference / 3) (reference % 3) t

abbrev pub variables_reply : AdapterAt → (reference : ℕ) → Reply
variables_reply s reference = if is_frame (reference / 3) then variables_in s.debugger reference (slice_get s.debugger.world.threads (frame_thread (reference / 3))) else failure no_frame
