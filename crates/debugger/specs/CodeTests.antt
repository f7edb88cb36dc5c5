-- Tests of worlds behind steps: of where threads stand in the code, and of numbers that are watched.
use Rattle.std.specs.Prelude.{ℕ, ◌==◌, ◌&&◌, Bool, List, Option, Some, None, length, nat_lt, position, slice_get, if◌then◌else◌}
use Rattle.std.specs.List.{list_any}
use Rattle.event_core.specs.Threads.{ThreadAt}
use Rattle.wasm_world.specs.CodePlace.{CodePlace}
use Rattle.wasm_world.specs.Standing.{standing}
use Rattle.wasm_world.specs.Opening.{WasmWorld}
use Rattle.wasm_world.specs.ThreadCode.{ThreadAt as CodeThread}
use Rattle.debugger.specs.declared.watching.Seen.{Seen}
use Rattle.debugger.specs.Watches.{is_changed}

abbrev pub depth_of : Option (ThreadAt CodeThread) → ℕ
depth_of None = 0
depth_of (Some t) = length (standing t.state.state)

-- in how many functions a thread is; one that has ended is in none
abbrev pub depth_in : WasmWorld → ℕ → ℕ
depth_in w t = depth_of (slice_get w.threads t)

-- a thread is in fewer functions than so many
abbrev pub is_out : ℕ → WasmWorld → ℕ → Option ℕ
is_out depth w t = if nat_lt (depth_in w t) depth then Some 0 else None

abbrev pub place_of : Option (ThreadAt CodeThread) → Option CodePlace
place_of None = None
place_of (Some t) = slice_get (standing t.state.state) 0

-- which instruction comes next in the function that a thread runs
abbrev pub place_in : WasmWorld → ℕ → Option CodePlace
place_in w t = place_of (slice_get w.threads t)

abbrev pub is_same : CodePlace → CodePlace → Bool
is_same p q = p.function == q.function && p.instruction == q.instruction

abbrev pub place_among : List CodePlace → Option CodePlace → Option ℕ
place_among places None = None
place_among places (Some p) = position (λ q. is_same q p) places

-- at which instruction of the list a thread stands
abbrev pub stands_at : List CodePlace → WasmWorld → ℕ → Option ℕ
stands_at places w t = place_among places (place_in w t)

-- at that one; or, behind the instructions, that a number that is watched is other than it was
abbrev pub or_watched : Option ℕ → ℕ → Bool → Option ℕ
or_watched (Some index) count changed = Some index
or_watched None count changed = if changed then Some count else None

abbrev pub is_behind : List CodePlace → List Seen → WasmWorld → ℕ → Option ℕ
is_behind places seen w t = or_watched (stands_at places w t) (length places) (list_any (is_changed w) seen)
