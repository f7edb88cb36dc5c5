use Rattle.std.proofs.Common.{◌≡◌, ◌<◌, false, length, arith, sym, ap, ◌∙◌}
use Rattle.std.specs.Prelude.{◌==◌, ◌&&◌, not, slice_index}
use Rattle.std.specs.Char.{is_ascii_digit}
use Rattle.std.specs.List.{list_all}
use Rattle.std.proofs.lemmas.Bool.{ne_eqb}
use Rattle.text_lines.proofs.IntegerLemmas.{positive_is}
use Rattle.text_lines.proofs.integers.has_positive.Goals as goal

pub returns-then-first-ne48 : goal.returns-then-first-ne48
returns-then-first-ne48 c =
    let some : 0 < length c.args.text.now = omega arith in
    let differs : (slice_index c.args.text.now 0 == 48) ≡ false = ne_eqb _ _ c.if-first-ne48.true in
    c.are_digits.ensures ∙ sym (positive_is c.args.text.now some ∙ ap (λ b. not b && list_all is_ascii_digit c.args.text.now) differs)
