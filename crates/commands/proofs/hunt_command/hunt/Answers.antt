use Rattle.std.proofs.Common.{inr}
use Rattle.std.proofs.lemmas.Result.{IfOk-weaker, IfErr-weaker}
use Rattle.commands.proofs.hunt_command.hunt.Goals as goal

pub returns-clause-hunted : goal.returns-clause-hunted
returns-clause-hunted g c =
    IfOk-weaker c.hunted-answer.result _ _ (λ answer h. record { m = c.in-Ok.program.valid; plan = c.in-Ok.program.plan; has_program = c.in-Ok.ensures.found; is_hunted = h }) c.hunted-answer.ensures.hunted

pub returns-clause-refused : goal.returns-clause-refused
returns-clause-refused g c = IfErr-weaker c.hunted-answer.result _ _ (λ fault h. inr (c.in-Ok.program.valid, c.in-Ok.program.plan, c.in-Ok.ensures.found, h)) c.hunted-answer.ensures.refused
