-- What holds of every waiter queue, so that it never has more than 16 threads.
use Rattle.std.specs.Prelude.{◌≡◌, ℕ, ◌+◌, ◌≤◌, ◌==◌, Bool, cond, List, [], ◌∷◌, length}
use Rattle.block_objects.specs.Objects.{QueueAt}

-- how many elements pass a test
abbrev pub times : {X : Type 0} → (X → Bool) → List X → ℕ
times p [] = 0
times p (x ∷ xs) = cond (p x) 1 0 + times p xs

-- how often a thread stands in a queue's lists
abbrev pub times_in : QueueAt → ℕ → ℕ
times_in q thread = times (λ w. w.thread == thread) q.waiting + times (λ t. t == thread) q.woken

-- each thread below 16 stands at most once, and no other thread
abbrev pub IsKept : QueueAt → Type 0
IsKept q = record {
  once : (thread : ℕ) → times_in q thread ≤ 1;
  none_above : (thread : ℕ) → 16 ≤ thread → times_in q thread ≡ 0;
  few : length q.waiting + length q.woken ≤ 16;
}
