-- Where the groups of a function's locals end.
use Rattle.std.specs.Prelude.{ℕ, ◌+◌, List, [], ◌∷◌, min}
use Rattle.wasm_types.specs.declared.modules.LocalGroup.{LocalGroup}

-- the end of a group that begins at this place; at most the greatest number of 64 bits
abbrev pub end_behind : ℕ → LocalGroup → ℕ
end_behind start group = min (start + group.count) 18446744073709551615

-- the ends of groups that stand one behind the other, the first one at this place
unfoldable pub ends_from : ℕ → List LocalGroup → List ℕ
ends_from start [] = []
ends_from start (g ∷ gs) = end_behind start g ∷ ends_from (end_behind start g) gs
