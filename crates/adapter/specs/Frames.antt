-- The threads of a world, and the frames of their stacks: Debug Adapter Protocol, "Requests", "Threads" and "StackTrace".
use Rattle.std.specs.Prelude.{ℕ, ◌+◌, ◌-◌, ◌==◌, List, ◌++◌, codes, drop, length, map, min, take, if◌then◌else◌}
use Rattle.std.specs.List.{range_with_len}
use Rattle.std.specs.Fmt.{decimal}
use Rattle.adapter_messages.specs.declared.body.Body.{Body}
use Rattle.adapter_messages.specs.declared.body.Body.TheVariants.{StackTrace}
use Rattle.adapter_messages.specs.declared.parts.StackFrame.{StackFrame}
use Rattle.adapter_messages.specs.declared.parts.Thread.{Thread}
use Rattle.binary_decoder.specs.Names.{function_name}
use Rattle.debug_views.specs.Standing.{title}
use Rattle.wasm_world.specs.CodePlace.{CodePlace}
use Rattle.adapter.specs.declared.frames.TheConstants.{MOST_FRAMES}
use Rattle.adapter.specs.Code.{offset_at, reference_of}
use Rattle.adapter.specs.Ids.{frame_id}
use Rattle.adapter.specs.Numbered.{numbered}

-- `thread T`
abbrev pub thread_item : ℕ → Thread
thread_item t = record { id = t + 1; name = codes "thread " ++ decimal t }

-- the threads below a number
abbrev pub threads_below : ℕ → List Thread
threads_below n = map thread_item (range_with_len 0 n)

-- the frame of a thread at a depth, which stands at that place in the code of these bytes
abbrev pub frame_at : (source : List ℕ) → (thread depth : ℕ) → CodePlace → StackFrame
frame_at source thread depth p = record {
  id = frame_id thread depth;
  name = title (function_name source p.function) p.function;
  instruction = reference_of (offset_at source p);
}

-- so many frames of a thread that stands at these places, from the first depth on
abbrev pub frames_of : (source : List ℕ) → List CodePlace → (thread first n : ℕ) → List StackFrame
frames_of source places thread first n = numbered (frame_at source thread) first (take n (drop first places))

-- how many frames are told of a stack of that depth: all from the first one asked for on where `levels` is 0, and no more
-- than `levels` where it is not
abbrev pub frame_count : (depth start levels : ℕ) → ℕ
frame_count depth start levels = if levels == 0 then depth - start else min levels (depth - start)

-- of the first 1,024 frames of a stack, those that are asked for
abbrev pub trace_of : (source : List ℕ) → (thread start levels : ℕ) → List CodePlace → Body
trace_of source thread start levels places =
    StackTrace (frames_of source places thread start (frame_count (min (length places) MOST_FRAMES) start levels)) (length places)
