use Rattle.std.proofs.Common.{rules, ◌≡◌, true, false, sym, ap, ◌∙◌}
use Rattle.std.proofs.lemmas.Result.{IfOk-weaker}
use Rattle.commands.specs.Hunts.{rests}
use Rattle.commands.proofs.Rest.{not_at_rest, at_rest}
use Rattle.commands.proofs.hunt_schedules.SmallRunsTrial.comes.Goals as goal

pub returns-then-not-rests : goal.returns-then-not-rests
returns-then-not-rests g c =
    let r = c.in_ok-recording.recording.recorded in
    let outcomes : c.outcomes.result.now ≡ r.end.outcomes = search (c.outcomes.ensures, c.end.ensures, c.recorded.ensures, rules) in
    let rested : c.rests.result ≡ false = search rules in
    record {
      recorded = r;
      is_run = c.in_ok-recording.ensures.is_run;
      judged = not_at_rest _ _ (ap (rests c.args.self.now.may_leave) (sym outcomes) ∙ sym c.rests.ensures ∙ rested);
    }

pub returns : goal.returns
returns g c =
    let r = c.in_ok-recording.recording.recorded in
    let outcomes : c.outcomes.result.now ≡ r.end.outcomes = search (c.outcomes.ensures, c.end.ensures, c.recorded.ensures, rules) in
    let rested : c.rests.result ≡ true = search rules in
    IfOk-weaker c.judge.result _ _ (λ caught h. record {
      recorded = r;
      is_run = c.in_ok-recording.ensures.is_run;
      judged = at_rest _ _ caught (ap (rests c.args.self.now.may_leave) (sym outcomes) ∙ sym c.rests.ensures ∙ rested) h;
    }) c.judge.ensures
