-- Parts of an answer that have numbers.
use Rattle.std.specs.Prelude.{ℕ, List, map}
use Rattle.std.specs.List.{enumerate_from}

-- what is told of each of a list by its number, where the first has that number
abbrev pub numbered : {X Y : Type 0} → (ℕ → X → Y) → (first : ℕ) → List X → List Y
numbered f first xs = map (λ p. f p.0 p.1) (enumerate_from first xs)
