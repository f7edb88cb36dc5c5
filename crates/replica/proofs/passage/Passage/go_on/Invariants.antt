-- Rows were put behind those of the beginning, each let pass.
use Rattle.std.proofs.Common.{◌-◌, ◌^◌, length}
use Rattle.replica.specs.Kept.{IsLonger}
use Rattle.replica.proofs.passage.Passage.go_on.Given as goal

abbrev pub invariant-loop-row : goal.invariant-loop-row
invariant-loop-row l = IsLonger l.log l.initial.self l.self

abbrev pub decreases-loop-row : goal.decreases-loop-row
decreases-loop-row l = 2 ^ 64 - length l.self.rows.items
