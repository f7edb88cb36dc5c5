use Rattle.std.proofs.Common.{◌++◌, ap, sym, ◌∙◌}
use Rattle.itoa.proofs.Decimal.{decimal_two}
use Rattle.debug_views.proofs.numbers.put_first.Goals as goal

pub returns-else-number-lt10-clause-text : goal.returns-else-number-lt10-clause-text
returns-else-number-lt10-clause-text c =
    c.push_str-else-number-lt10.ensures.bytes ∙ ap (λ l. c.args.line.now.bytes ++ l) (c.pair.ensures.digits ∙ sym (decimal_two c.args.number c.if-number-lt10.false c.requires.number))
