-- A test of how many steps a thread made.
use Rattle.std.specs.Prelude.{ℕ, ◌==◌, cond, Option, Some, None}

-- the first part holds where it is this number, the second where it is the other
abbrev pub part_made : ℕ → ℕ → Option ℕ → Option ℕ
part_made first second None = None
part_made first second (Some n) = cond (n == first) (Some 0) (cond (n == second) (Some 1) None)
