use Rattle.std.proofs.lemmas.Result.{IfOk-weaker}
use Rattle.commands.proofs.hunt_surveys.DrawnRuns.comes.Goals as goal

pub returns : goal.returns
returns g c = IfOk-weaker c.judge.result _ _ (λ caught h. record { recorded = c.in_ok-recording.recording.recorded; is_run = c.in_ok-recording.ensures.is_run; judged = h }) c.judge.ensures
