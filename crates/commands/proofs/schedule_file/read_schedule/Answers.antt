use Rattle.std.proofs.Common.{ℕ, List, ◌∙◌, sym, ap, subst}
use Rattle.std.specs.Prelude.{Result}
use Rattle.wasm_record.specs.Pick.{Pick}
use Rattle.pick_schedule.specs.Schedule.{schedule_of, IsFaultOf}
use Rattle.pick_schedule.proofs.Beginnings.{beginning_judged}
use Rattle.commands.proofs.schedule_file.read_schedule.Goals as goal

pub returns-in-Ok-schedule-clause-found : goal.returns-in-Ok-schedule-clause-found
returns-in-Ok-schedule-clause-found g c =
    let f = c.in-Ok.ensures.found in
    (f.0, f.1, sym (beginning_judged f.0) ∙ ap schedule_of (sym (c.deref.ensures.value ∙ f.2)) ∙ c.in-Ok-schedule.ensures.ok)

pub returns-clause-refused : goal.returns-clause-refused
returns-clause-refused g c =
    let f = c.in-Ok.ensures.found in
    (f.0, f.1, subst (λ (r : Result (List Pick) ℕ). IsFaultOf r c.in-Err-schedule.fault) (ap schedule_of (c.deref.ensures.value ∙ f.2) ∙ beginning_judged f.0) c.in-Err-schedule.ensures.err)
