-- What there is for each number that elements of a list have.
use Rattle.std.specs.Prelude.{ℕ, ◌==◌, nat_lt, if◌then◌else◌, List, [], ◌∷◌, map}
use Rattle.std.specs.List.{flat_map, filter}

-- a number put where it stands among numbers that rise, unless it is there
abbrev pub put_in : ℕ → List ℕ → List ℕ
put_in n [] = n ∷ []
put_in n (m ∷ ms) = if nat_lt n m then n ∷ m ∷ ms else if n == m then m ∷ ms else m ∷ put_in n ms

-- the numbers of a list, each once, by rising value
abbrev pub rising : List ℕ → List ℕ
rising [] = []
rising (n ∷ ns) = put_in n (rising ns)

-- the elements that have a number
abbrev pub having : {X : Type 0} → (X → ℕ) → ℕ → List X → List X
having number n xs = filter (λ x. number x == n) xs

-- by rising number, what there is for a number and the elements that have it
abbrev pub by_number : {X : Type 0} → (X → ℕ) → (ℕ → List X → List ℕ) → List X → List ℕ
by_number number part xs = flat_map (λ n. part n (having number n xs)) (rising (map number xs))
