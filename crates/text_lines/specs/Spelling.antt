-- What the lines of a text are.
use Rattle.std.specs.Prelude.{◌≡◌, ◌≢◌, ℕ, List, [], ◌∷◌, ◌++◌, All, ◌⊎◌}
use Rattle.std.specs.List.{join_with_byte}

-- the lines between line ends; the last has its end or lacks it
pub record IsTextOf (text : List ℕ) (lines : List (List ℕ)) : Type 0 where
  pub lines_have_no_end : All (λ line. All (λ b. b ≢ 10) line) lines
  pub joined : (join_with_byte 10 lines ≡ text) ⊎ (join_with_byte 10 lines ++ 10 ∷ [] ≡ text)
