use Rattle.std.proofs.Common.{◌∙◌}
use Rattle.adapter_messages.proofs.Numerals.{numeral_is}
use Rattle.adapter_messages.proofs.fields.is_numeral.Goals as goal

pub returns-in-len1-up : goal.returns-in-len1-up
returns-in-len1-up c = c.are_digits.ensures ∙ numeral_is c.args.text.now c.in-len1-up.len_at_least
