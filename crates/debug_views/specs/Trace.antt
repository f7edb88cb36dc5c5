-- Traces: a line for each event of a replay that is asked for.
use Rattle.std.specs.Prelude.{ℕ, ◌+◌, Bool, true, false, ◌&&◌, ◌||◌, ◌==◌, nat_lt, nat_le, min, max, cond, List, [], ◌∷◌, ◌++◌, length, Option, Some, None, option_map, slice_get, unwrap_or}
use Rattle.std.specs.Int.{Width, byte_len}
use Rattle.std.specs.List.{list_any}
use Rattle.wasm_types.specs.declared.instruction.Access.{Access}
use Rattle.wasm_types.specs.declared.instruction.Access.TheVariants.{Whole}
use Rattle.wasm_types.specs.declared.outcome.Outcome.{Outcome}
use Rattle.wasm_types.specs.declared.outcome.Outcome.TheVariants.{Running}
use Rattle.wasm_types.specs.declared.operation.Action.{Action}
use Rattle.wasm_types.specs.declared.operation.Action.TheVariants as act
use Rattle.wasm_types.specs.declared.operation.Op.{Op}
use Rattle.wasm_types.specs.declared.range.ByteRange.{ByteRange}
use Rattle.wasm_types.specs.Accesses.{access_width, load_access}
use Rattle.block_objects.specs.Access.{number_at}
use Rattle.block_objects.specs.Objects.{value_pages}
use Rattle.block_objects.specs.SharedMemory.{shared_memory}
use Rattle.event_core.specs.declared.pick.Input.TheVariants.{Go, TimeOut}
use Rattle.event_core.specs.declared.step.PickStep.{PickStep}
use Rattle.event_core.specs.declared.step.PickStep.TheVariants as step
use Rattle.event_core.specs.End.{outcome_of}
use Rattle.event_core.specs.Threads.{ThreadAt}
use Rattle.event_core.specs.World.{step_of_pick}
use Rattle.integer_machine.specs.declared.standing.CodePlace.{CodePlace}
use Rattle.integer_machine.specs.Standing.{standing}
use Rattle.replay_laws.specs.Turns.{pick_of}
use Rattle.wasm_world.specs.Opening.{WasmWorld}
use Rattle.wasm_world.specs.ThreadCode.{thread_code, ThreadAt as CodeThread}
use Rattle.debug_views.specs.Standing.{PlaceForm, place_text}
use Rattle.debug_views.specs.TraceLines.{event_line}
use Rattle.debug_views.specs.Values.{memory_bytes}
use Rattle.debug_views.specs.declared.trace_choice.TraceChoice.{TraceChoice}
use Rattle.debug_views.specs.declared.trace_seen.Seen.{Seen}
use Rattle.replica.specs.declared.diverging.EventAt.{EventAt}

-- ---- what a thread does next

abbrev pub action_if : PickStep Op → Option Action
action_if (step.Refused f) = None
action_if step.Local = None
action_if (step.Event op) = Some op.action

-- of a thread that can't go on, by its timing out
abbrev pub action_or : PickStep Op → PickStep Op → Option Action
action_or (step.Refused f) out = action_if out
action_or step.Local out = None
action_or (step.Event op) out = Some op.action

-- what the next event of a thread does, if that comes next
abbrev pub action_of : WasmWorld → ℕ → Option Action
action_of w t = action_or (step_of_pick shared_memory thread_code w (pick_of t Go)) (step_of_pick shared_memory thread_code w (pick_of t TimeOut))

-- ---- numbers in memory

-- the number that stands at an address, where memory reaches so far
abbrev pub number_if : Width → ℕ → List ℕ → Option ℕ
number_if w address bytes = cond (nat_le (address + byte_len w) (length bytes)) (Some (number_at w address bytes)) None

-- the access of an action to numbers in memory, and its address
abbrev pub accessed : Action → Option (Access × ℕ)
accessed (act.Load load address) = Some (load_access load, address)
accessed (act.Store access address operand) = Some (access, address)
accessed (act.Rmw op access address operand) = Some (access, address)
accessed (act.CompareExchange access address expected replacement) = Some (access, address)
accessed act.Size = None
accessed (act.Grow by) = None
accessed (act.Wait width thread address expected) = Some (Whole width, address)
accessed (act.Notify address count) = None
accessed (act.Resume thread address) = None
accessed (act.TimeOut thread address) = None

abbrev pub is_of_length : Action → Bool
is_of_length (act.Load load address) = false
is_of_length (act.Store access address operand) = false
is_of_length (act.Rmw op access address operand) = false
is_of_length (act.CompareExchange access address expected replacement) = false
is_of_length act.Size = true
is_of_length (act.Grow by) = true
is_of_length (act.Wait width thread address expected) = false
is_of_length (act.Notify address count) = false
is_of_length (act.Resume thread address) = false
is_of_length (act.TimeOut thread address) = false

-- how many pages there are
abbrev pub pages_in : WasmWorld → ℕ
pages_in w = value_pages (w.memory.values 0)

abbrev pub measured_by : Option (Access × ℕ) → Bool → WasmWorld → Option ℕ
measured_by None is_length w = cond is_length (Some (pages_in w)) None
measured_by (Some a) is_length w = number_if (access_width a.0) a.1 (memory_bytes shared_memory w)

-- the number at an action's address, or how many pages there are
abbrev pub measured : Action → WasmWorld → Option ℕ
measured action w = measured_by (accessed action) (is_of_length action) w

-- ---- what is seen of a thread before its event

abbrev pub seen_by : WasmWorld → Option (ThreadAt CodeThread) → Option Action → Option Seen
seen_by w None action = None
seen_by w (Some th) None = None
seen_by w (Some th) (Some action) = Some (record { place = th.places; standing = slice_get (standing th.state.state) 0; action = action; found = measured action w })

abbrev pub seen_of : WasmWorld → ℕ → Option Seen
seen_of w t = seen_by w (slice_get w.threads t) (action_of w t)

-- ---- which events have a line

-- of any thread, where none is named
abbrev pub is_of_threads : List ℕ → ℕ → Bool
is_of_threads only t = length only == 0 || list_any (λ m. m == t) only

-- the address of the waiters that an action concerns
abbrev pub waiters_at : Action → Option ℕ
waiters_at (act.Load load address) = None
waiters_at (act.Store access address operand) = None
waiters_at (act.Rmw op access address operand) = None
waiters_at (act.CompareExchange access address expected replacement) = None
waiters_at act.Size = None
waiters_at (act.Grow by) = None
waiters_at (act.Wait width thread address expected) = None
waiters_at (act.Notify address count) = Some address
waiters_at (act.Resume thread address) = Some address
waiters_at (act.TimeOut thread address) = Some address

abbrev pub bytes_by : Option (Access × ℕ) → Option ℕ → Option (ℕ × ℕ)
bytes_by None waiters = option_map (λ address. (address, 4)) waiters
bytes_by (Some a) waiters = Some (a.1, byte_len (access_width a.0))

-- the address of an action, and how many bytes it concerns there
abbrev pub bytes_of_action : Action → Option (ℕ × ℕ)
bytes_of_action action = bytes_by (accessed action) (waiters_at action)

-- a range has one of so many bytes from an address on
abbrev pub do_meet : ByteRange → ℕ × ℕ → Bool
do_meet r b = nat_lt (max r.from b.0) (min (r.from + r.len) (b.0 + b.1))

abbrev pub is_met : List ByteRange → Option (ℕ × ℕ) → Bool
is_met ranges None = false
is_met ranges (Some b) = list_any (λ r. do_meet r b) ranges

-- on a byte of one of the ranges; any action, where none is named
abbrev pub is_of_ranges : List ByteRange → Action → Bool
is_of_ranges ranges action = length ranges == 0 || is_met ranges (bytes_of_action action)

abbrev pub has_passed : Option ℕ → ℕ → Bool
has_passed None place = false
has_passed (Some places) place = nat_lt place places

-- behind it the thread of that event has made it, where one is named
abbrev pub is_since : Option EventAt → WasmWorld → Bool
is_since None v = true
is_since (Some e) v = has_passed (option_map (λ (th : ThreadAt CodeThread). th.places) (slice_get v.threads e.thread)) e.place

-- what a trace is asked for: places written so, and events of these threads, on a byte of one of these ranges, from
-- this one on
pub record TraceAsked : Type 0 where
  pub places : PlaceForm
  pub only : List ℕ
  pub bytes : List ByteRange
  pub since : Option EventAt

abbrev pub asked_with : PlaceForm → TraceChoice → TraceAsked
asked_with places choice = record { places = places; only = choice.only.now; bytes = choice.bytes.now; since = choice.since }

abbrev pub is_chosen : List ℕ → List ByteRange → Option EventAt → ℕ → Action → WasmWorld → Bool
is_chosen only bytes since t action v = is_of_threads only t && (is_of_ranges bytes action && is_since since v)

-- what is seen of thread t, where its thread and its action are asked for
abbrev pub seen_if : List ℕ → List ByteRange → ℕ → Option Seen → Option Seen
seen_if only bytes t None = None
seen_if only bytes t (Some s) = cond (is_of_threads only t && is_of_ranges bytes s.action) (Some s) None

-- ---- lines

-- where it stands in the code, if it does
abbrev pub standing_text : PlaceForm → Option CodePlace → List ℕ
standing_text form None = []
standing_text form (Some p) = place_text form p ++ 32 ∷ []

-- how a thread stands in a world
abbrev pub outcome_in : WasmWorld → ℕ → Outcome
outcome_in v t = unwrap_or (option_map (λ (th : ThreadAt CodeThread). outcome_of (thread_code.next th.state)) (slice_get v.threads t)) Running

abbrev pub line_of : TraceAsked → ℕ → Option Seen → WasmWorld → List ℕ
line_of asked t None v = []
line_of asked t (Some s) v =
    cond (is_chosen asked.only asked.bytes asked.since t s.action v)
    (event_line t s.place (standing_text asked.places s.standing) s.action s.found (measured s.action v) (outcome_in v t)) []

-- the line of an event of thread t that leads from world w to world v
abbrev pub trace_note : TraceAsked → WasmWorld → ℕ → WasmWorld → List ℕ
trace_note asked w t v = line_of asked t (seen_of w t) v
