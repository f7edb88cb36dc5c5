use Rattle.std.proofs.Common.{◌∙◌, ap, sym}
use Rattle.adapter_messages.specs.Fields.{split_field}
use Rattle.adapter_messages.proofs.Splits.{split_is}
use Rattle.adapter_messages.proofs.fields.split_field.Goals as goal

pub returns-in-len1-up : goal.returns-in-len1-up
returns-in-len1-up c =
    c.named.ensures
    ∙ split_is c.args.line.now c.split_at.result.0.now c.split_at.result.1.now c.in-Some.colon c.split_at.ensures.front c.split_at.ensures.back
    ∙ ap (split_field c.args.line.now) (sym c.in-Some.is ∙ c.colon_in.ensures.place)
