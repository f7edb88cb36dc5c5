use Rattle.std.proofs.Common.{rules, ◌≡◌, ap, string_bytes}
use Rattle.std.proofs.lemmas.Result.{on_ok_weaker}
use Rattle.commands.specs.Hunts.{run_line}
use Rattle.commands.specs.Hunts.{IsRunLine}
use Rattle.commands.proofs.Least.{listed_add}
use Rattle.commands.proofs.hunt_surveys.RunLinesSurvey.add.Goals as goal

pub returns : goal.returns
returns g c =
    let s = c.args.self.now in
    let r = c.in_ok-recording.recording.recorded in
    let is_line = IsRunLine s.runs.program.now.valid s.runs.program.now.plan s.runs.request.now in
    let outcomes : c.outcomes.result.now ≡ r.end.outcomes = search (c.outcomes.ensures, c.end.ensures, c.recorded.ensures, rules) in
    let line = run_line c.args.number c.outcomes.result.now in
    on_ok_weaker c.put_run_line.result
    (λ put from count is before.
    listed_add is_line from count c.args.number (string_bytes c.args.found.now) line (string_bytes c.put_run_line.new.text) is before (record { recorded = r; is_run = c.in_ok-recording.ensures.is_run; is = ap (run_line c.args.number) outcomes }) put)
    c.put_run_line.ensures
