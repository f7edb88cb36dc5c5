use Rattle.std.proofs.Common.{◌-◌, ◌<◌, ◌≤◌}
use Rattle.recorder.proofs.survey.survey_numbers.Given as goal

abbrev pub invariant-loop-done : goal.invariant-loop-done
invariant-loop-done g l = g.V.Survey.finds l.survey l.from l.done l.found × (l.done ≤ l.count) × (0 < l.size) × (l.size ≤ 64)

abbrev pub decreases-loop-done : goal.decreases-loop-done
decreases-loop-done g l = l.count - l.done
