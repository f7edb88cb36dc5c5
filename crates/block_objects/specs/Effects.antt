-- What an operation on a shared memory answers and writes, as a function of the values of the objects that it touches
-- (WebAssembly Core 1.0, memory instructions; threads proposal, atomic accesses, wait and notify).
use Rattle.std.specs.Prelude.{ℕ, ◌+◌, ◌-◌, ◌%◌, ◌^◌, Bool, true, cond, ◌==◌, ◌&&◌, nat_le, List, [], ◌∷◌, ◌++◌, length, take, drop, Option, Some, None}
use Rattle.std.specs.Int.{Width, byte_len}
use Rattle.rw_objects.specs.Space.{Effect}
use Rattle.wasm_types.specs.declared.value.Value.TheVariants as values
use Rattle.wasm_types.specs.declared.trap.Trap.TheVariants.{OutOfBounds, UnalignedAtomic}
use Rattle.wasm_types.specs.declared.operation.Extent.{Extent}
use Rattle.wasm_types.specs.declared.operation.Action.{Action}
use Rattle.wasm_types.specs.declared.operation.Action.TheVariants as act
use Rattle.wasm_types.specs.declared.operation.Reply.{Reply}
use Rattle.wasm_types.specs.declared.operation.Reply.TheVariants as replies
use Rattle.block_objects.specs.Objects.{ObjectAt, Length, Bytes, Queue, QueueAt, block_of, block_object}
use Rattle.wasm_types.specs.Values.{value_of}
use Rattle.wasm_types.specs.Accesses.{access_type, access_width, load_width, type_width}
use Rattle.block_objects.specs.Access.{number_at, with_number_if, is_within, loaded, modified, exchanged}
use Rattle.block_objects.specs.Queues.{no_waiters, is_woken, waits_at, after_wait, chosen, after_notify, after_resume, after_time_out}

-- ---- what was found in the touched objects

-- the length, or the initial length where the length is not touched
abbrev pub pages_seen : ℕ → List ObjectAt → ℕ
pages_seen initial [] = initial
pages_seen initial (Length pages ∷ vs) = pages
pages_seen initial (Bytes bytes ∷ vs) = pages_seen initial vs
pages_seen initial (Queue q ∷ vs) = pages_seen initial vs

-- the bytes of the touched blocks, one after another
abbrev pub bytes_seen : List ObjectAt → List ℕ
bytes_seen [] = []
bytes_seen (Length pages ∷ vs) = bytes_seen vs
bytes_seen (Bytes bytes ∷ vs) = bytes ++ bytes_seen vs
bytes_seen (Queue q ∷ vs) = bytes_seen vs

abbrev pub queue_seen : List ObjectAt → QueueAt
queue_seen [] = no_waiters
queue_seen (Length pages ∷ vs) = queue_seen vs
queue_seen (Bytes bytes ∷ vs) = queue_seen vs
queue_seen (Queue q ∷ vs) = q

-- ---- replies

abbrev pub out_of_bounds : Reply
out_of_bounds = replies.Trap OutOfBounds

abbrev pub i32_reply : ℕ → Reply
i32_reply n = replies.Value (values.I32 n)

-- an access answers by the number that it finds, or traps
abbrev pub access_reply : Bool → Width → ℕ → (ℕ → Reply) → List ℕ → Reply
access_reply within w at reply bytes = cond within (reply (number_at w at bytes)) out_of_bounds

-- and stores a number, if it stores one
abbrev pub access_bytes : Bool → Width → ℕ → (ℕ → Option ℕ) → List ℕ → List ℕ
access_bytes within w at stored bytes = cond within (with_number_if w at (stored (number_at w at bytes)) bytes) bytes

-- `memory.grow` answers the old length, or -1 where the new one would pass the capacity
abbrev pub grow_reply : ℕ → ℕ → ℕ → Reply
grow_reply capacity pages by = cond (nat_le (pages + by) capacity) (i32_reply pages) (i32_reply (2 ^ 32 - 1))

abbrev pub grown : ℕ → ℕ → ℕ → ℕ
grown capacity pages by = cond (nat_le (pages + by) capacity) (pages + by) pages

-- a wait traps where it is not aligned or ends past the length, answers 1 where another number than the expected one
-- stands there, and else sleeps
abbrev pub wait_reply : Bool → Bool → Bool → Reply
wait_reply aligned within equal = cond aligned (cond within (cond equal replies.Sleeps (i32_reply 1)) out_of_bounds) (replies.Trap UnalignedAtomic)

-- a notify answers how many threads it woke
abbrev pub notify_reply : Bool → ℕ → ℕ → QueueAt → Reply
notify_reply within address count q = cond within (i32_reply (length (chosen address count q.waiting))) out_of_bounds

-- ---- effects

-- the values of one block or two that have these bytes
abbrev pub block_values : ℕ → ℕ → List ℕ → ℕ → ObjectAt
block_values power first bytes o = cond (o == block_object first) (Bytes (take (2 ^ power) bytes)) (Bytes (drop (2 ^ power) bytes))

abbrev pub access_effect : Extent → ℕ → Width → (ℕ → Reply) → (ℕ → Option ℕ) → List ObjectAt → Effect Reply ObjectAt
access_effect e address w reply stored seen = record {
  ready = true;
  reply = access_reply (is_within (pages_seen e.initial seen) address (byte_len w)) w (address % 2 ^ e.block) reply (bytes_seen seen);
  written = block_values e.block (block_of e.block address)
      (access_bytes (is_within (pages_seen e.initial seen) address (byte_len w)) w (address % 2 ^ e.block) stored (bytes_seen seen));
}

-- a wait compares and queues at once
abbrev pub wait_effect : Bool → Bool → Bool → ℕ → ℕ → QueueAt → Effect Reply ObjectAt
wait_effect aligned within equal thread address q = record {
  ready = true;
  reply = wait_reply aligned within equal;
  written = λ o. Queue (cond (aligned && within && equal) (after_wait thread address q) q);
}

abbrev pub notify_effect : Bool → ℕ → ℕ → QueueAt → Effect Reply ObjectAt
notify_effect within address count q = record {
  ready = true;
  reply = notify_reply within address count q;
  written = λ o. Queue (cond within (after_notify address count q) q);
}

abbrev pub action_effect : ℕ → Extent → Action → List ObjectAt → Effect Reply ObjectAt
action_effect capacity e (act.Load load address) seen = access_effect e address (load_width load) (λ n. replies.Value (loaded load n)) (λ n. None) seen
action_effect capacity e (act.Store access address operand) seen = access_effect e address (access_width access) (λ n. replies.Stored) (λ n. Some operand) seen
action_effect capacity e (act.Rmw op access address operand) seen =
    access_effect e address (access_width access) (λ n. replies.Value (value_of (access_type access) n)) (λ n. Some (modified op n operand)) seen
action_effect capacity e (act.CompareExchange access address expected replacement) seen =
    access_effect e address (access_width access) (λ n. replies.Value (value_of (access_type access) n)) (exchanged expected replacement) seen
action_effect capacity e act.Size seen = record { ready = true; reply = i32_reply (pages_seen e.initial seen); written = λ o. Length (pages_seen e.initial seen) }
action_effect capacity e (act.Grow by) seen = record {
  ready = true;
  reply = grow_reply capacity (pages_seen e.initial seen) by;
  written = λ o. Length (grown capacity (pages_seen e.initial seen) by);
}
action_effect capacity e (act.Wait width thread address expected) seen =
    wait_effect (address % byte_len (type_width width) == 0) (is_within (pages_seen e.initial seen) address (byte_len (type_width width)))
    (number_at (type_width width) (address % 2 ^ e.block) (bytes_seen seen) == expected) thread address (queue_seen seen)
action_effect capacity e (act.Notify address count) seen = notify_effect (is_within (pages_seen e.initial seen) address 4) address count (queue_seen seen)
action_effect capacity e (act.Resume thread address) seen = record {
  ready = is_woken thread (queue_seen seen);
  reply = i32_reply 0;
  written = λ o. Queue (after_resume thread (queue_seen seen));
}
action_effect capacity e (act.TimeOut thread address) seen = record {
  ready = waits_at thread address (queue_seen seen);
  reply = i32_reply 2;
  written = λ o. Queue (after_time_out thread address (queue_seen seen));
}
