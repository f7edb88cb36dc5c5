-- Ids of threads and of frames.
use Rattle.std.specs.Prelude.{ℕ, ◌+◌, ◌-◌, ◌*◌, ◌&&◌, Option, Some, None, nat_lt, nat_le, if◌then◌else◌}

-- the thread that has an id, of so many threads: they have the numbers from 1 on
abbrev pub thread_of : (count id : ℕ) → Option ℕ
thread_of count id = if nat_lt 0 id && nat_le id count then Some (id - 1) else None

-- the id of the frame of a thread at a depth, where the function that runs has depth 0: there are 16 threads at most
abbrev pub frame_id : (thread depth : ℕ) → ℕ
frame_id thread depth = 16 * depth + (thread + 1)
