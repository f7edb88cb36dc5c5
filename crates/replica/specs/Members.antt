-- Sets of threads.
use Rattle.std.specs.Prelude.{ℕ, Bool, false, slice_index_or}
use Rattle.replica.specs.declared.threads.ThreadSet.{ThreadSet}

-- the thread is in the set
abbrev pub has_thread : ThreadSet → ℕ → Bool
has_thread set thread = slice_index_or set.members thread false
