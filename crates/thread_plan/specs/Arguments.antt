-- The values that integers in decimal give.
use Rattle.std.specs.Prelude.{ℕ, ℤ, List, [], ◌∷◌, Option, Some, None, option_map}
use Rattle.std.specs.Str.Parse.{signed_digits_value}
use Rattle.wasm_types.specs.declared.value.ValType.{ValType}
use Rattle.wasm_types.specs.declared.value.ValType.TheVariants as type
use Rattle.wasm_types.specs.declared.value.Value.{Value}
use Rattle.wasm_types.specs.declared.value.Value.TheVariants.{I32, I64}
use Rattle.text_lines.specs.Integers.{bits_of}

-- the value of a type that an integer gives, if it is in the type's range
abbrev pub value_of : ValType → ℤ → Option Value
value_of type.I32 number = option_map (λ bits. I32 bits) (bits_of 32 number)
value_of type.I64 number = option_map (λ bits. I64 bits) (bits_of 64 number)

abbrev pub both : Option Value → Option (List Value) → Option (List Value)
both None values = None
both (Some value) None = None
both (Some value) (Some values) = Some (value ∷ values)

-- a value for each parameter: None where there are more or fewer arguments, or one is out of range
abbrev pub values_of : List ValType → List (List ℕ) → Option (List Value)
values_of [] [] = Some []
values_of [] (text ∷ texts) = None
values_of (t ∷ ts) [] = None
values_of (t ∷ ts) (text ∷ texts) = both (value_of t (signed_digits_value 10 text)) (values_of ts texts)
