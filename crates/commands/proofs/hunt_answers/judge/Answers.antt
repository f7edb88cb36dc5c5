use Rattle.std.proofs.Common.{◌≡◌, ◌∙◌, sym, ap, rules}
use Rattle.commands.specs.Signs.{is_caught}
use Rattle.debug_views.specs.Report.{report_text}
use Rattle.commands.proofs.hunt_answers.judge.Goals as goal

pub returns : goal.returns
returns c =
    let r = c.args.recording.now.recorded in
    let asked = c.args.request.now in
    let end : c.end.result.now ≡ r.end = search (c.end.ensures, c.recorded.ensures, rules) in
    let shown : c.as_bytes.result.now ≡ report_text r.end = c.as_bytes.ensures.value ∙ c.in_ok-report.ensures ∙ ap report_text end in
    sym (c.is_caught.ensures ∙ ap (is_caught asked.until.items asked.unless.items) shown)
