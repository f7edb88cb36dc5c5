use Rattle.std.proofs.Common.{rules, ◌≡◌, ◌∙◌, ◌≤◌, ◌^◌, true, sym, arith}
use Rattle.std.specs.Str.Parse.{digits_value}
use Rattle.command_words.specs.Words.{has_digits_alone}
use Rattle.command_words.proofs.Digits.{digits_are_utf8, too_large, unparsed}
use Rattle.command_words.proofs.numbers.number_up_to.Goals as goal

pub returns-in_default : goal.returns-in_default
returns-in_default c = absurd (c.in_default.ensures.cases.0 (digits_are_utf8 c.args.text.now (sym c.has_digits_alone.ensures ∙ c.if-not-has_digits_alone.false)))

pub returns-in_default-parse : goal.returns-in_default-parse
returns-in_default-parse c =
    let h : has_digits_alone c.args.text.now ≡ true = sym c.has_digits_alone.ensures ∙ c.if-not-has_digits_alone.false in
    let large : 2 ^ 64 ≤ digits_value 10 c.args.text.now = unparsed c.args.text.now c.parse.result c.in_default-parse.field-0 h (rw c.in-Ok.ensures.cases.0 at c.parse.ensures.value.0) (search rules) in
    sym (too_large c.args.most c.args.text.now h (omega (arith, c.ranges.most.fits)))
