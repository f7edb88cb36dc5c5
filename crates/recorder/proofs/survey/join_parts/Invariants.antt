use Rattle.std.proofs.Common.{◌≡◌, ◌-◌, ◌*◌, ◌≤◌, min, vec_len, take}
use Rattle.recorder.proofs.survey.join_parts.Given as goal

abbrev pub invariant-loop-part : goal.invariant-loop-part
invariant-loop-part g l = g.V.Survey.finds l.survey l.from (min ((vec_len l.initial.parts - vec_len l.parts) * l.size) l.count) l.found
    × (vec_len l.parts ≤ vec_len l.initial.parts) × (l.parts.items ≡ take (vec_len l.parts) l.initial.parts.items)

abbrev pub decreases-loop-part : goal.decreases-loop-part
decreases-loop-part g l = vec_len l.parts
