-- The tokens name no thread's key, so they may go to another thread and be shared.
use mathlib.Core.List.{List}
use Prim.Native.Nat.{ℕ}
use base.Stored.{Gv}
use base.Fml.{Share}
use base.Growing.{latest, at_least}
use base.Shift.{Keyless}
use Rattle.shared_parts.specs.Owned.{share_of_list, past_owns, share_of_number}

pub list_keyless : {C : Type 0} (c : C → Gv) (name : ℕ) (items : List C) (q : Share) → Keyless (share_of_list c name items q)
unfolding share_of_list latest
list_keyless c name items q = tt

pub past_keyless : {C : Type 0} (c : C → Gv) (name : ℕ) (items : List C) → Keyless (past_owns c name items)
unfolding past_owns at_least
past_keyless c name items = tt

pub number_keyless : (name number : ℕ) (q : Share) → Keyless (share_of_number name number q)
unfolding share_of_number latest
number_keyless name number q = tt
