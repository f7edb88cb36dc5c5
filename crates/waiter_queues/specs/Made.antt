-- Waiter queues that are made when somebody comes to wait.
use Rattle.std.specs.Prelude.{◌≡◌, ℕ, ◌-◌, ◌≤◌, List, ◌++◌, length, replicate}
use Rattle.block_objects.specs.Objects.{QueueAt}
use Rattle.block_objects.specs.Queues.{no_waiters}

-- so many queues: those that are made, and nobody stands in the others
abbrev pub all_queues : ℕ → List QueueAt → List QueueAt
all_queues count made = made ++ replicate (count - length made) no_waiters

-- there is room to make each, and nobody stands in the one that is shown for those that are not made
abbrev pub HasRoomFor : ℕ → ℕ → List QueueAt → QueueAt → Type 0
HasRoomFor count capacity made nobody = record {
  few : length made ≤ count;
  room : count ≤ capacity;
  none : nobody ≡ no_waiters;
}
