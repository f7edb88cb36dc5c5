use Rattle.std.proofs.Common.{◌≡◌}
use Rattle.std.proofs.Common.{true, false, refl}
use Rattle.std.specs.Str.{is_utf8}
use Rattle.std.proofs.lemmas.Str.{is_utf8-from_IsUtf8}
use Rattle.binary_decoder.proofs.NameLaws.{not_utf8}
use Rattle.binary_decoder.proofs.cursor.Cursor.name.Goals as goal

pub returns-in-Ok-clause-value : goal.returns-in-Ok-clause-value
returns-in-Ok-clause-value c =
    let valid : is_utf8 c.in_ok-content.content.rest.now ≡ true = is_utf8-from_IsUtf8 c.in_ok-content.content.rest.now c.in-Ok.ensures.cases.1 in
    rw (c.in_ok-content.ensures.value, valid) refl

pub returns-in-Err-clause-value : goal.returns-in-Err-clause-value
returns-in-Err-clause-value c =
    let invalid : is_utf8 c.in_ok-content.content.rest.now ≡ false = not_utf8 c.in_ok-content.content.rest.now c.in-Err.ensures.cases.0 in
    rw (c.refused.ensures, c.in_ok-content.ensures.value, invalid) refl
