-- Which seats can go on. A seat that rests enters no call before so many were entered by others, and one that has left
-- enters none any more. Each other seat can go on, also one whose thread has still to begin. No seat can go on where
-- each has left, or rests until there are more calls than were entered: then nobody enters one, so it stays so.
use Rattle.std.specs.Prelude.{ℕ, ◌+◌, Bool, true, false, ◌==◌, nat_lt, cond, List, [], ◌∷◌}
use Rattle.std.specs.List.{list_all}
use Rattle.shared_core.specs.declared.resting.SeatState.{SeatState}
use Rattle.shared_core.specs.declared.resting.SeatState.TheVariants.{Goes, RestsUntil, Left}
use Rattle.shared_core.specs.declared.resting.Wakes.{Wakes}
use Rattle.shared_core.specs.declared.resting.Wakes.TheVariants.{Nobody, One, All}

abbrev pub rests : SeatState → Bool
rests Goes = false
rests (RestsUntil until) = true
rests Left = false

-- a seat rests until just so many calls were entered
abbrev pub is_awaited : ℕ → SeatState → Bool
is_awaited length Goes = false
is_awaited length (RestsUntil until) = until == length
is_awaited length Left = false

-- with so many calls entered, a seat enters none: it rests until there are more, or has left
abbrev pub is_still : ℕ → SeatState → Bool
is_still length Goes = false
is_still length (RestsUntil until) = nat_lt length until
is_still length Left = true

-- with so many calls entered, no seat can go on
abbrev pub none_goes : ℕ → List SeatState → Bool
none_goes length seats = list_all (is_still length) seats

-- the numbers of the seats that rest until just so many calls, where the first seat has this number
abbrev pub awaiting : ℕ → ℕ → List SeatState → List ℕ
awaiting length number [] = []
awaiting length number (s ∷ ss) = cond (is_awaited length s) (number ∷ awaiting length (number + 1) ss) (awaiting length (number + 1) ss)

-- the same with one seat more
abbrev pub with_one : Wakes → ℕ → Wakes
with_one Nobody n = One n
with_one (One m) n = All
with_one All n = All

-- which seats are woken where these are awaited, and so many before them
abbrev pub woken : Wakes → List ℕ → Wakes
woken before [] = before
woken before (n ∷ ns) = woken (with_one before n) ns

-- which seats are woken where these are awaited
abbrev pub wakes : List ℕ → Wakes
wakes ns = woken Nobody ns
