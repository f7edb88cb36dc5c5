-- A shared memory as one list of bytes (WebAssembly Core 1.0, memory instances), and what operations do to it.
use Rattle.std.specs.Prelude.{◌≡◌, ℕ, ◌+◌, ◌*◌, ◌≤◌, List, [], ◌∷◌, length, take, replicate, Option}
use Rattle.std.specs.Int.{Width, byte_len}
use Rattle.wasm_types.specs.declared.sizes.TheConstants.{MOST_PAGES, PAGE_SIZE}
use Rattle.wasm_types.specs.declared.value.Value.{Value}
use Rattle.wasm_types.specs.declared.value.Value.TheVariants as values
use Rattle.wasm_types.specs.declared.modules.Data.{Data}
use Rattle.wasm_types.specs.declared.operation.Reply.{Reply}
use Rattle.block_objects.specs.declared.limits.MemoryLimits.{MemoryLimits}
use Rattle.block_objects.specs.Access.{is_within, overwrite}
use Rattle.block_objects.specs.Effects.{access_reply, access_bytes, grown}

-- the numbers that stay, the length in pages, and the bytes up to the capacity
pub record MemoryAt : Type 0 where
  pub limits : MemoryLimits
  pub pages : ℕ
  pub bytes : List ℕ

-- the length is from the initial one to the capacity, and there are bytes and whole blocks up to the capacity
pub record IsSound (m : MemoryAt) : Type 0 where
  pub from_initial : m.limits.initial ≤ m.pages
  pub to_capacity : m.pages ≤ m.limits.capacity
  pub in_limit : m.limits.capacity ≤ MOST_PAGES
  pub all_bytes : length m.bytes ≡ m.limits.capacity * PAGE_SIZE
  pub least_block : 6 ≤ m.limits.block
  pub greatest_block : m.limits.block ≤ 12

abbrev pub access_answer : MemoryAt → ℕ → Width → (ℕ → Reply) → Reply
access_answer m address w reply = access_reply (is_within m.pages address (byte_len w)) w address reply m.bytes

abbrev pub after_access : MemoryAt → ℕ → Width → (ℕ → Option ℕ) → MemoryAt
after_access m address w stored = record { limits = m.limits; pages = m.pages; bytes = access_bytes (is_within m.pages address (byte_len w)) w address stored m.bytes }

abbrev pub after_grow : MemoryAt → ℕ → MemoryAt
after_grow m by = record { limits = m.limits; pages = grown m.limits.capacity m.pages by; bytes = m.bytes }

-- the bytes of a memory at its present length
abbrev pub present_bytes : MemoryAt → List ℕ
present_bytes m = take (m.pages * PAGE_SIZE) m.bytes

-- ---- active segments

-- the bits of a segment's offset, as an unsigned number
abbrev pub value_bits : Value → ℕ
value_bits (values.I32 n) = n
value_bits (values.I64 n) = n

abbrev pub segment_fits : ℕ → Data → Type 0
segment_fits pages d = value_bits d.offset + length d.bytes ≤ pages * PAGE_SIZE

-- bytes with the segments written over them, in order
abbrev pub with_segments : List Data → List ℕ → List ℕ
with_segments [] bytes = bytes
with_segments (d ∷ ds) bytes = with_segments ds (overwrite (value_bits d.offset) d.bytes bytes)

-- a memory as it opens: zeros, and the segments
abbrev pub opening_memory : MemoryLimits → List Data → MemoryAt
opening_memory limits segments =
    record { limits = limits; pages = limits.initial; bytes = with_segments segments (replicate (limits.capacity * PAGE_SIZE) 0) }
