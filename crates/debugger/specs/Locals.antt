-- Locals and operands of a function that a thread is in, as lines.
use Rattle.std.specs.Prelude.{ℕ, List, [], ◌∷◌, ◌++◌, codes, reverse}
use Rattle.std.specs.Fmt.{decimal}
use Rattle.std.specs.List.{enumerate_from, flat_map}
use Rattle.wasm_types.specs.declared.value.Value.{Value}
use Rattle.wasm_types.specs.Text.{value_text}
use Rattle.debug_views.specs.TraceLines.{number_text}

-- a line for each of a list, by its number from 0 on
abbrev pub lines_of : {X : Type 0} → (line : ℕ → X → List ℕ) → List X → List ℕ
lines_of line xs = flat_map (λ p. line p.0 p.1) (enumerate_from 0 xs)

-- `local N i32 5`
abbrev pub local_line : ℕ → Value → List ℕ
local_line n v = codes "local " ++ (decimal n ++ (codes " " ++ (value_text v ++ 10 ∷ [])))

abbrev pub locals_text : List Value → List ℕ
locals_text [] = codes "no locals\n"
locals_text (v ∷ vs) = lines_of local_line (v ∷ vs)

-- `operand N 5`; bits of 65,536 and more are written in hexadecimal
abbrev pub operand_line : ℕ → ℕ → List ℕ
operand_line n bits = codes "operand " ++ (decimal n ++ (codes " " ++ (number_text bits ++ 10 ∷ [])))

-- the topmost of these stands last; it has number 0
abbrev pub operands_text : List ℕ → List ℕ
operands_text [] = codes "no operands\n"
operands_text (w ∷ ws) = lines_of operand_line (reverse (w ∷ ws))
