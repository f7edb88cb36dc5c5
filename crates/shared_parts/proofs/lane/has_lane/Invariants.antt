use Rattle.std.proofs.Common.{◌≡◌, drop}
use Rattle.shared_parts.specs.Parts.{has_lane}
use Rattle.shared_parts.proofs.lane.has_lane.Given as goal

abbrev pub invariant-loop-touch : goal.invariant-loop-touch
invariant-loop-touch l = has_lane l.lane (drop l.touch-index l.touch-items) ≡ has_lane l.lane l.touches
