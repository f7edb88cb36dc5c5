use Rattle.std.proofs.Common.{◌≡◌, List, ℕ, true, sym, subst}
use Rattle.std.specs.Str.Parse.{signed_digits_value}
use Rattle.text_lines.specs.Integers.{is_decimal}
use Rattle.text_lines.proofs.DecimalLemmas.{text_is_decimal, decimal_is_text}
use Rattle.text_lines.proofs.laws.integers_are_decimal.Goals as goal

pub returns : goal.returns
returns c = λ text number bits fits. (
  λ h. text_is_decimal text number bits fits h.0 h.1,
  λ e. subst (λ (t : List ℕ). (is_decimal t ≡ true) × (signed_digits_value 10 t ≡ number)) (sym e) (decimal_is_text number bits fits),
)
