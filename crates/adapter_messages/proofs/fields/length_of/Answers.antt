use Rattle.std.proofs.Common.{sym, ◌∙◌}
use Rattle.adapter_messages.proofs.Numerals.{numeral_is_utf8, refused_is_too_long}
use Rattle.adapter_messages.proofs.fields.length_of.Goals as goal

pub returns-in_default : goal.returns-in_default
returns-in_default c = absurd (c.in_default.ensures.cases.0 (numeral_is_utf8 c.args.digits.now (sym c.is_numeral.ensures ∙ c.if-not-is_numeral.false)))

pub returns-in_default-parse-2 : goal.returns-in_default-parse-2
returns-in_default-parse-2 c = sym (refused_is_too_long c.args.digits.now c.parse.result c.in_default-parse.field-0 (sym c.is_numeral.ensures ∙ c.if-not-is_numeral.false) (rw c.in-Ok.ensures.cases.0 at c.parse.ensures.value.0) c.in_default-parse.is)
