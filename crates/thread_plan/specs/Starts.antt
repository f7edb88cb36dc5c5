-- What is noted of the bodies of threads.
use Rattle.std.specs.Prelude.{ℕ, Bool, false, List, Option, Some, None, length, slice_get, slice_index_or}
use Rattle.std.specs.List.{filter, range_with_len}
use Rattle.thread_plan.specs.declared.starts.Start.{Start}

-- what was noted, else this
abbrev pub value_or : Option Bool → Bool → Option Bool
value_or None b = Some b
value_or (Some a) b = Some a

abbrev pub else_by : Option Bool → Bool → Bool
else_by None b = b
else_by (Some a) b = a

-- a body begins with the value of a global: its first instruction of it takes the value, or there is none before a call
abbrev pub begins_in : Start → ℕ → Bool
begins_in start global = else_by (slice_index_or start.first.items global None) start.calls

abbrev pub begins_at : ℕ → Option Start → Bool
begins_at global None = false
begins_at global (Some start) = begins_in start global

-- the threads that begin with the value of a global, which are numbered by their place
abbrev pub threads_in : List Start → ℕ → List ℕ
threads_in starts global = filter (λ t. begins_at global (slice_get starts t)) (range_with_len 0 (length starts))
