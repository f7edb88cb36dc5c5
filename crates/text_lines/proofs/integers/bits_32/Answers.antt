use Rattle.std.proofs.Common.{◌≡◌, false, true, sym, ap, ◌∙◌}
use Rattle.std.specs.Prelude.{option_map}
use Rattle.std.specs.Int.{w32, cast_unsigned}
use Rattle.std.specs.Result.{result_ok}
use Rattle.std.specs.Str.Parse.{starts_with_minus}
use Rattle.text_lines.proofs.IntegerLemmas.{decimal_is_utf8, plain_bits, minus_bits}
use Rattle.text_lines.proofs.integers.bits_32.Goals as goal

pub returns-in_default : goal.returns-in_default
returns-in_default c = absurd (c.in_default.ensures.cases.0 (decimal_is_utf8 c.args.text.now c.requires))

pub returns-then-not-is_negative : goal.returns-then-not-is_negative
returns-then-not-is_negative c =
    let plain : starts_with_minus c.args.text.now ≡ false = sym c.is_negative.ensures ∙ c.if-not-is_negative.true in
    c.ok.ensures.value ∙ plain_bits 32 c.args.text.now c.parse.result c.requires plain (rw c.in-Ok.ensures.cases.0 at c.parse.ensures.value.0)

pub returns-in-Err : goal.returns-in-Err
returns-in-Err c =
    let minus : starts_with_minus c.args.text.now ≡ true = sym c.is_negative.ensures ∙ c.if-not-is_negative.false in
    ap (λ r. option_map (cast_unsigned w32) (result_ok r)) (sym c.in-Err.is) ∙ minus_bits w32 c.args.text.now c.parse-2.result c.requires minus (rw c.in-Ok.ensures.cases.0 at c.parse-2.ensures.value.0)
