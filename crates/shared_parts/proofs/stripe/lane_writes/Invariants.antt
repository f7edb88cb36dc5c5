use Rattle.std.proofs.Common.{◌≡◌, ◌+◌, ◌≤◌, length, drop}
use Rattle.shared_parts.specs.Parts.{lane_writes}
use Rattle.shared_parts.proofs.stripe.lane_writes.Given as goal

abbrev pub invariant-loop-touch : goal.invariant-loop-touch
invariant-loop-touch l = (l.count + lane_writes l.lane (drop l.touch-index l.touch-items) ≡ lane_writes l.lane l.touches) × (l.count ≤ l.touch-index) × (length l.touch-items ≤ 3)
