-- What thread lines are made of.
use Rattle.std.specs.Prelude.{◌≡◌, ◌≢◌, ℕ, true, List, ◌∷◌, ◌++◌, codes, All}
use Rattle.std.specs.List.{list_all, flat_map}
use Rattle.std.specs.Str.{IsUtf8}
use Rattle.text_lines.specs.Integers.{is_decimal}

-- `thread`, a space, a name in UTF-8 without a space, and each argument behind a space: an integer in decimal
pub record IsThreadLine (line name : List ℕ) (arguments : List (List ℕ)) : Type 0 where
  pub spelled : line ≡ codes "thread " ++ (name ++ flat_map (λ a. 32 ∷ a) arguments)
  pub one_word : All (λ b. b ≢ 32) name
  pub is_text : IsUtf8 name
  pub integers : list_all is_decimal arguments ≡ true
