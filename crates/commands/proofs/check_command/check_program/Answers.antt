use Rattle.std.proofs.Common.{inr}
use Rattle.std.proofs.lemmas.Result.{IfOk-weaker, IfErr-weaker}
use Rattle.commands.proofs.check_command.check_program.Goals as goal

pub returns-clause-checked : goal.returns-clause-checked
returns-clause-checked g c = IfOk-weaker c.hinted_summary.result _ _ (λ text h. (c.in-Ok.program.valid, c.in-Ok.program.plan, c.in-Ok.ensures.found, h)) c.hinted_summary.ensures.text

pub returns-clause-refused : goal.returns-clause-refused
returns-clause-refused g c = IfErr-weaker c.hinted_summary.result _ _ (λ fault h. inr h) c.hinted_summary.ensures.refused
