use Rattle.std.proofs.Common.{◌∙◌, ap, inr}
use Rattle.std.proofs.lemmas.Result.{IfOk-weaker, IfErr-weaker}
use Rattle.commands.specs.Checks.{valid_text}
use Rattle.commands.proofs.check_command.check_module.Goals as goal

pub returns-clause-checked : goal.returns-clause-checked
returns-clause-checked g c = IfOk-weaker c.valid_summary.result _ _ (λ text h. (c.in-Ok.valid, c.in-Ok.ensures.found, h ∙ ap valid_text c.module.ensures.module)) c.valid_summary.ensures.text

pub returns-clause-refused : goal.returns-clause-refused
returns-clause-refused g c = IfErr-weaker c.valid_summary.result _ _ (λ fault h. inr h) c.valid_summary.ensures.refused
