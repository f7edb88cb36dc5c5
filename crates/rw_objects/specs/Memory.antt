-- A space with its versions as theorems see it, and one event of it.
use Rattle.std.specs.Prelude.{ℕ}
use Rattle.rw_objects.specs.declared.count.Count.{Count}
use Rattle.rw_objects.specs.declared.entry.Entry.{Entry}
use Rattle.rw_objects.specs.declared.versioned.Versioned.{Versioned}
use Rattle.rw_objects.specs.declared.space.ObjectSpace.{Ghosts}
use Rattle.rw_objects.specs.Space.{Space, values_after}
use Rattle.rw_objects.specs.Counts.{count_at, counts_after, all_found}

-- the fixed numbers of a space, and the value and the count of each object
pub record Memory (Value Fixed : Type 0) : Type 0 where
  pub fixed : Fixed
  pub values : ℕ → Value
  pub counts : ℕ → Count

abbrev pub memory_with : {Value Fixed : Type 0} → Fixed → (ℕ → Value) → (ℕ → Count) → Memory Value Fixed
memory_with fixed values counts = record { fixed = fixed; values = values; counts = counts }

module _ {Op Reply Value Fixed : Type 0} (space : Space Op Reply Value Fixed) where
  -- the entry that an event logs: the operation's kind, and what each touch finds
  abbrev pub entry_of : Memory Value Fixed → Op → Entry
  entry_of m op = record { kind = space.kind op; found = all_found (space.touches op) m.counts }

  -- what an event leaves
  abbrev pub memory_after : Memory Value Fixed → Op → Memory Value Fixed
  memory_after m op = memory_with m.fixed (values_after space m.fixed m.values op) (counts_after (space.touches op) m.counts)

-- what a versioned space is
abbrev pub memory_of : {S Op Reply Value Fixed : Type 0} {ghosts : Ghosts S Op Reply Value Fixed} → Versioned S Op Reply Value Fixed ghosts → Memory Value Fixed
memory_of {ghosts = g} v = memory_with (g.fixed v.space) (g.values v.space) (count_at v.versions)
