use Rattle.std.proofs.Common.{◌≡◌, ◌∙◌, ap, rules}
use Rattle.std.proofs.lemmas.Result.{IfOk-weaker}
use Rattle.debug_views.specs.Report.{report_text}
use Rattle.commands.specs.Hunts.{caught_text}
use Rattle.commands.proofs.hunt_answers.told_of.Goals as goal

pub returns : goal.returns
returns c =
    let r = c.args.recording.now.recorded in
    let end : c.end.result.now ≡ r.end = search (c.end.ensures, c.recorded.ensures, rules) in
    let shown : c.as_bytes.result.now ≡ report_text r.end = c.as_bytes.ensures.value ∙ c.in_ok-report.ensures ∙ ap report_text end in
    IfOk-weaker c.caught_text.result _ _ (λ told h. h ∙ ap (caught_text c.args.request.now c.args.number) shown) c.caught_text.ensures
