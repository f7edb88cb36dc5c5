-- The bytes of a world's memory, and the versions of its objects.
use Rattle.std.specs.Prelude.{ℕ, ◌+◌, ◌<◌, ◌≤◌, Bool, cond, nat_lt, nat_le, List, length, take, drop, Option, Some, None}
use Rattle.rw_objects.specs.Space.{Space}
use Rattle.rw_objects.specs.declared.count.Count.{Count}
use Rattle.event_core.specs.World.{WorldAt}
use Rattle.debug_views.specs.declared.fault.ViewFault.{ViewFault}
use Rattle.debug_views.specs.declared.fault.ViewFault.TheVariants as fault

-- the bytes that stand for the memory now
abbrev pub memory_bytes : {State Op Reply Value Fixed : Type 0} → Space Op Reply Value Fixed → WorldAt State Value Fixed → List ℕ
memory_bytes space w = space.image w.memory.fixed w.memory.values

-- the bytes from an address on, so many of them
abbrev pub bytes_of_range : List ℕ → ℕ → ℕ → List ℕ
bytes_of_range memory from len = take len (drop from memory)

-- the memory has all bytes of the range
abbrev pub is_in_view : List ℕ → ℕ → ℕ → Bool
is_in_view memory from len = nat_le (from + len) (length memory)

-- the range passes the memory's end; or it does not, and memory could not be had
abbrev pub IsFault : List ℕ → ℕ → ℕ → ViewFault → Type 0
IsFault memory from len fault.OutOfView = length memory < from + len
IsFault memory from len fault.NoMemory = from + len ≤ length memory

-- the count of an object, where there are so many objects
abbrev pub count_of_object : ℕ → (ℕ → Count) → ℕ → Option Count
count_of_object objects counts object = cond (nat_lt object objects) (Some (counts object)) None
