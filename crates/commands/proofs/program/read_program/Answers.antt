use Rattle.std.proofs.Common.{inr}
use Rattle.commands.proofs.Earlier.{plan_refused_earlier}
use Rattle.commands.proofs.program.read_program.Goals as goal

pub returns-in-Err-read_plan-clause-refused : goal.returns-in-Err-read_plan-clause-refused
returns-in-Err-read_plan-clause-refused g c =
    inr (c.in-Ok.valid, c.in-Ok.ensures.found, plan_refused_earlier (c.in-Ok.ensures.still_holds _) (c.in-Ok.ensures.still_fails _) c.in-Ok.valid c.in-Err-read_plan.fault c.in-Err-read_plan.ensures.refused)
