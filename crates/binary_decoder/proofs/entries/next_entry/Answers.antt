use Rattle.std.proofs.Common.{◌≡◌, true, false, refl}
use Rattle.std.specs.Str.{is_utf8}
use Rattle.std.proofs.lemmas.Str.{is_utf8-from_IsUtf8}
use Rattle.binary_decoder.proofs.NameLaws.{not_utf8}
use Rattle.binary_decoder.specs.Names.{entry_at}
use Rattle.binary_decoder.proofs.entries.next_entry.Goals as goal

pub returns-in-Ok-clause-value : goal.returns-in-Ok-clause-value
unfolding entry_at
returns-in-Ok-clause-value c =
    let valid : is_utf8 c.rest.result.now ≡ true = is_utf8-from_IsUtf8 c.rest.result.now c.in-Ok.ensures.cases.1 in
    rw (c.in-Ok.ensures.cases.0, c.in_ok-function.ensures.value, c.in_ok-content.ensures.value, ← c.rest.ensures, valid) refl

pub returns-in-Err-clause-value : goal.returns-in-Err-clause-value
unfolding entry_at
returns-in-Err-clause-value c =
    let invalid : is_utf8 c.rest.result.now ≡ false = not_utf8 c.rest.result.now c.in-Err.ensures.cases.0 in
    rw (c.refusal.ensures, c.in_ok-function.ensures.value, c.in_ok-content.ensures.value, ← c.rest.ensures, invalid) refl
