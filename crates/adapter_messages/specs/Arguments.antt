-- Arguments of a request: Debug Adapter Protocol, "Base Protocol", "Request".
use Rattle.std.specs.Prelude.{ℕ, ℤ, pos, List, Option, Some, None, codes, option_and_then}
use Rattle.serde_json.specs.Data.{Data}
use Rattle.serde_json.specs.Find.{get, as_number, as_str, as_i64, as_u64}

-- what the arguments of a message have at this name
abbrev pub argument : List ℕ → Data → Option Data
argument name message = option_and_then (get name) (get (codes "arguments") message)

abbrev pub number_of : Data → Option ℕ
number_of d = option_and_then as_u64 (as_number d)

abbrev pub integer_of : Data → Option ℤ
integer_of d = option_and_then as_i64 (as_number d)

-- what a value gives, or x where it is left out
abbrev pub or_else : {X : Type 0} → X → (Data → Option X) → Option Data → Option X
or_else x f None = Some x
or_else x f (Some d) = f d

-- ---- the arguments of a name

abbrev pub number : List ℕ → Data → Option ℕ
number name message = option_and_then number_of (argument name message)

abbrev pub number_or_zero : List ℕ → Data → Option ℕ
number_or_zero name message = or_else 0 number_of (argument name message)

abbrev pub integer_or_zero : List ℕ → Data → Option ℤ
integer_or_zero name message = or_else (pos 0) integer_of (argument name message)

abbrev pub text : List ℕ → Data → Option (List ℕ)
text name message = option_and_then as_str (argument name message)
