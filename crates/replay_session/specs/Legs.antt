-- Ways as lists of legs.
use Rattle.std.specs.Prelude.{ℕ, zero, suc, ◌+◌, ◌-◌, ◌==◌, cond, nat_lt, List, [], ◌∷◌, ◌++◌, sum_by}
use Rattle.replay_session.specs.declared.legs.Leg.{Leg}
use Rattle.replay_session.specs.declared.legs.Leg.TheVariants as leg

-- how many steps a leg has, and a way
abbrev pub steps_of_leg : Leg → ℕ
steps_of_leg (leg.Thread thread steps) = steps
steps_of_leg (leg.Rounds steps) = steps

abbrev pub steps_of_way : List Leg → ℕ
steps_of_way legs = sum_by steps_of_leg legs

-- a leg with so many steps in place of its own
abbrev pub leg_with : Leg → ℕ → Leg
leg_with (leg.Thread thread steps) n = leg.Thread thread n
leg_with (leg.Rounds steps) n = leg.Rounds n

-- the first n steps of a leg, and of a way
abbrev pub first_of_leg : Leg → ℕ → List Leg
first_of_leg l zero = []
first_of_leg l (suc n) = leg_with l (suc n) ∷ []

abbrev pub first_steps : List Leg → ℕ → List Leg
first_steps [] n = []
first_steps (l ∷ ls) n = cond (nat_lt n (steps_of_leg l)) (first_of_leg l n) (l ∷ first_steps ls (n - steps_of_leg l))

-- a way without its last n steps
abbrev pub without_last : ℕ → List Leg → List Leg
without_last n legs = first_steps legs (steps_of_way legs - n)

-- n steps of thread t behind one leg
abbrev pub joined : Leg → ℕ → ℕ → List Leg
joined (leg.Thread thread steps) t n = cond (thread == t) (leg.Thread t (steps + n) ∷ []) (leg.Thread thread steps ∷ leg.Thread t n ∷ [])
joined (leg.Rounds steps) t n = leg.Rounds steps ∷ leg.Thread t n ∷ []

abbrev pub longer : List Leg → ℕ → ℕ → List Leg
longer [] t n = leg.Thread t n ∷ []
longer (l ∷ []) t n = joined l t n
longer (l ∷ m ∷ ls) t n = l ∷ longer (m ∷ ls) t n

-- a way with n steps of thread t behind it: they are of the last leg where that is of the thread
abbrev pub with_thread : List Leg → ℕ → ℕ → List Leg
with_thread legs t zero = legs
with_thread legs t (suc n) = longer legs t (suc n)

-- a way with rounds behind it
abbrev pub with_rounds : List Leg → ℕ → List Leg
with_rounds legs zero = legs
with_rounds legs (suc n) = legs ++ (leg.Rounds (suc n) ∷ [])
