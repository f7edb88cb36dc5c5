use Rattle.std.proofs.Common.{sym, ◌∙◌, subst}
use Rattle.std.specs.Prelude.{IfSome}
use Rattle.commands.specs.Hunts.{IsScheduleAnswer}
use Rattle.commands.proofs.Forms.{as_drawn, by_schedule}
use Rattle.commands.proofs.hunt_command.found_answer.Goals as goal

pub returns-in-Ok-clause-found : goal.returns-in-Ok-clause-found
returns-in-Ok-clause-found g c =
    let asked = c.args.runs.now.request.now in
    as_drawn c.args.runs.now.program.now.valid c.args.runs.now.program.now.plan asked c.in-Ok.answer asked.form asked.shrinks (sym c.is_as_drawn.ensures ∙ c.if-is_as_drawn.true) c.in-Ok.ensures

pub returns-in-Ok-Some-clause-found : goal.returns-in-Ok-Some-clause-found
returns-in-Ok-Some-clause-found g c =
    let m = c.args.runs.now.program.now.valid in
    let plan = c.args.runs.now.program.now.plan in
    let asked = c.args.runs.now.request.now in
    let found = subst (λ o. IfSome o (IsScheduleAnswer m plan asked)) c.in-Ok-Some.field-0-is c.in-Ok-Some.ensures.answer in
    by_schedule m plan asked c.in-Ok-Some.answer asked.form asked.shrinks (sym c.is_as_drawn.ensures ∙ c.if-is_as_drawn.false) c.requires.catches found
