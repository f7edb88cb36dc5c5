-- The entry that comes next in a thread's log.
use Rattle.std.specs.Prelude.{Bool, false, cond, ◌&&◌, ◌+◌, ℕ, Option, Some, None, nat_lt}
use Rattle.rw_objects.specs.contracts.entry.EntryPartialEq.TheImpl as entries
use Rattle.rw_objects.specs.declared.entry.Entry.{Entry}
use Rattle.log_pieces.specs.declared.flat.Flat.{Flat}
use Rattle.log_pieces.specs.declared.flat.Flat.TheVariants.{Known, Clash}
use Rattle.replay_laws.specs.Log.{Log}

-- the entry is what is claimed
abbrev pub is_claimed : Option (Flat Entry) → Entry → Bool
is_claimed None entry = false
is_claimed (Some Clash) entry = false
is_claimed (Some (Known item)) entry = (entries.eq-value).it entry item

-- a log, and the place that comes next of a thread, whose known end has so many places
pub record LogPlace (L : Type 0) : Type 0 where
  pub log : L
  pub thread : ℕ
  pub place : ℕ
  pub places : ℕ

-- the entry that is claimed there is taken, and the next place comes
abbrev pub follow : {L : Type 0} → (L → Log) → LogPlace L → Entry → Option (LogPlace L)
follow log at entry = cond (nat_lt at.place at.places && is_claimed ((log at.log).entry at.thread at.place) entry) (Some (record at { place = at.place + 1 })) None
