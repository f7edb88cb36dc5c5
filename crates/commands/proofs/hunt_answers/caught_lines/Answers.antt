use Rattle.std.proofs.Common.{◌∙◌}
use Rattle.std.proofs.lemmas.Result.{IfOk-weaker}
use Rattle.commands.proofs.hunt_answers.caught_lines.Goals as goal

pub returns-clause-told : goal.returns-clause-told
returns-clause-told c = IfOk-weaker c.of_lines.result _ _ (λ answer h. h ∙ c.in_ok-told.ensures) c.of_lines.ensures.told
