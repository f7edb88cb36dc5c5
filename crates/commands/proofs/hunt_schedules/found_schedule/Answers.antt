use Rattle.std.proofs.Common.{rules, ◌≡◌, sym, ap, ◌∙◌, subst, IfSome}
use Rattle.wasm_types.specs.declared.key.Profile.TheVariants.{Two}
use Rattle.pick_schedule.specs.Printing.{AreOfThreads}
use Rattle.wasm_record.specs.Least.{IsLeast}
use Rattle.wasm_record.proofs.DrawnOnce.{drawn_runs_are_one, drawn_schedules_record}
use Rattle.commands.specs.Hunts.{leaves_running, shows, IsFoundSchedule, IsScheduleOfNumber, Tries}
use Rattle.commands.proofs.Rest.{as_before}
use Rattle.commands.proofs.hunt_schedules.found_schedule.Goals as goal

pub shrink-requires-clause-found : goal.shrink-requires-clause-found
shrink-requires-clause-found g c =
    let m = c.args.runs.now.program.now.valid in
    let plan = c.args.runs.now.program.now.plan in
    let asked = c.args.runs.now.request.now in
    let r = c.in_ok-recording.recording.recorded in
    let outcomes : c.outcomes.result.now ≡ r.end.outcomes = search (c.outcomes.ensures, c.end.ensures, c.recorded.ensures, rules) in
    let left = c.leaves_running.ensures ∙ ap leaves_running outcomes in
    let caught = c.requires.caught in
    let same = drawn_runs_are_one m plan (Two asked.block) c.args.number asked.times_out asked.steps r caught.recorded c.in_ok-recording.ensures.is_run caught.is_run in
    let drawn : IsScheduleOfNumber m plan asked c.args.number c.in-Some.drawn = subst (λ o. IfSome o (IsScheduleOfNumber m plan asked c.args.number)) c.in-Some.is c.in_ok-drawn.ensures.drawn in
    record {
      comes = record {
        recorded = r;
        is_run = drawn_schedules_record m plan (Two asked.block) c.args.number asked.times_out asked.steps c.in-Some.drawn r drawn c.in_ok-recording.ensures.is_run;
        judged = as_before _ _ _ left (ap (shows asked) same.1 ∙ caught.judged);
      };
      of_threads = subst (λ o. IfSome o AreOfThreads) c.in-Some.is c.in_ok-drawn.ensures.of_threads;
    }

pub returns-clause-found : goal.returns-clause-found
returns-clause-found g c =
    let m = c.args.runs.now.program.now.valid in
    let plan = c.args.runs.now.program.now.plan in
    let asked = c.args.runs.now.request.now in
    let r = c.in_ok-recording.recording.recorded in
    let outcomes : c.outcomes.result.now ≡ r.end.outcomes = search (c.outcomes.ensures, c.end.ensures, c.recorded.ensures, rules) in
    let left = c.leaves_running.ensures ∙ ap leaves_running outcomes in
    let small : IsLeast (Tries m plan asked (leaves_running r.end.outcomes)) c.in_ok-small.small = subst (λ b. IsLeast (Tries m plan asked b) c.in_ok-small.small) left c.in_ok-small.ensures in
    subst (λ b. IsFoundSchedule m plan asked b c.args.number c.in_ok-small.small) (sym c.if-not-runs.false) (r, c.in_ok-recording.ensures.is_run, small)
