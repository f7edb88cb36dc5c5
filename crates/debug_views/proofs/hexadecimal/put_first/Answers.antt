use Rattle.std.proofs.Common.{◌++◌, ap, sym, ◌∙◌}
use Rattle.std.proofs.lemmas.Fmt.{hex_two_digits}
use Rattle.std.specs.Prelude.{false}
use Rattle.debug_views.proofs.hexadecimal.put_first.Goals as goal

pub returns-else-number-lt16-clause-text : goal.returns-else-number-lt16-clause-text
returns-else-number-lt16-clause-text c =
    c.push_str-else-number-lt16.ensures.bytes ∙ ap (λ l. c.args.line.now.bytes ++ l) (c.byte.ensures.digits ∙ sym (hex_two_digits false c.args.number c.if-number-lt16.false c.requires.number))
