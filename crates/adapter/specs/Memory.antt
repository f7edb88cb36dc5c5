-- Bytes of the memory that clients read: Debug Adapter Protocol, "Requests", "ReadMemory".
use Rattle.std.specs.Prelude.{ℕ, ◌-◌, ℤ, pos, negsuc, List, [], Some, codes, drop, length, take, if◌then◌else◌}
use Rattle.std.specs.Str.{bytes_eq}
use Rattle.adapter_messages.specs.declared.body.Body.TheVariants.{Memory}
use Rattle.adapter_messages.specs.declared.reply.Reply.{Reply}
use Rattle.adapter.specs.Code.{reference_of}
use Rattle.adapter.specs.Replies.{failure, success}

-- the bytes from an address on, as many as there are, and how many there are not
abbrev pub found_reply : (memory : List ℕ) → (start count : ℕ) → Reply
found_reply memory start count = success (Memory (reference_of (Some start)) (take count (drop start memory)) (count - length (take count (drop start memory)))) []

abbrev pub offset_reply : (memory : List ℕ) → ℤ → (count : ℕ) → Reply
offset_reply memory (pos start) count = found_reply memory start count
offset_reply memory (negsuc below) count = failure (codes "error: no such address")

abbrev pub memory_reply : (memory reference : List ℕ) → ℤ → (count : ℕ) → Reply
memory_reply memory reference offset count =
    if bytes_eq reference (codes "memory") then offset_reply memory offset count else failure (codes "error: no such memory, try memory")
