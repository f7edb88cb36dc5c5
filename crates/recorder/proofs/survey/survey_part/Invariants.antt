use Rattle.std.proofs.Common.{◌≤◌}
use Rattle.recorder.proofs.survey.survey_part.Given as goal

abbrev pub invariant-loop-done : goal.invariant-loop-done
invariant-loop-done g l = g.V.Survey.finds l.survey l.from l.done l.found × (l.done ≤ l.count)
