-- What wait, notify, going on and a time-out do to a waiter queue (threads proposal; that the earliest waiters are
-- woken first is this project's own choice).
use Rattle.std.specs.Prelude.{ℕ, ◌-◌, Bool, cond, ◌==◌, ◌&&◌, ◌||◌, not, nat_lt, List, [], ◌∷◌, ◌++◌}
use Rattle.std.specs.List.{filter, list_any}
use Rattle.block_objects.specs.declared.waiter.Waiter.{Waiter}
use Rattle.block_objects.specs.Objects.{QueueAt}

abbrev pub no_waiters : QueueAt
no_waiters = record { waiting = []; woken = [] }

abbrev pub waiter_of : ℕ → ℕ → Waiter
waiter_of thread address = record { thread = thread; address = address }

-- a thread was woken
abbrev pub is_woken : ℕ → QueueAt → Bool
is_woken thread q = list_any (λ t. t == thread) q.woken

-- a thread waits at an address
abbrev pub waits_at : ℕ → ℕ → QueueAt → Bool
waits_at thread address q = list_any (λ w. (w.thread == thread) && (w.address == address)) q.waiting

-- a thread stands in one of the lists
abbrev pub stands_in : ℕ → QueueAt → Bool
stands_in thread q = list_any (λ w. w.thread == thread) q.waiting || is_woken thread q

-- a waiter comes to the end of the list; a thread above 15, or one that stands in a list, does not
abbrev pub after_wait : ℕ → ℕ → QueueAt → QueueAt
after_wait thread address q =
    cond (nat_lt thread 16 && not (stands_in thread q)) (record { waiting = q.waiting ++ waiter_of thread address ∷ []; woken = q.woken }) q

-- the first waiters at an address, at most n of them, and the waiters without those
abbrev pub chosen : ℕ → ℕ → List Waiter → List ℕ
chosen address n [] = []
chosen address n (w ∷ ws) = cond (nat_lt 0 n && (w.address == address)) (w.thread ∷ chosen address (n - 1) ws) (chosen address n ws)

abbrev pub left_waiting : ℕ → ℕ → List Waiter → List Waiter
left_waiting address n [] = []
left_waiting address n (w ∷ ws) = cond (nat_lt 0 n && (w.address == address)) (left_waiting address (n - 1) ws) (w ∷ left_waiting address n ws)

abbrev pub after_notify : ℕ → ℕ → QueueAt → QueueAt
after_notify address count q = record { waiting = left_waiting address count q.waiting; woken = q.woken ++ chosen address count q.waiting }

-- a woken thread goes on
abbrev pub after_resume : ℕ → QueueAt → QueueAt
after_resume thread q = record { waiting = q.waiting; woken = filter (λ t. not (t == thread)) q.woken }

-- a waiter that was not woken goes on
abbrev pub after_time_out : ℕ → ℕ → QueueAt → QueueAt
after_time_out thread address q = record { waiting = filter (λ w. not ((w.thread == thread) && (w.address == address))) q.waiting; woken = q.woken }
