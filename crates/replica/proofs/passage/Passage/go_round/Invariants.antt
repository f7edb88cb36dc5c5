-- Rows were put behind those of the beginning, each let pass; where none was, the threads so far are stuck.
use Rattle.std.proofs.Common.{◌≡◌, ℕ, ◌<◌, length}
use Rattle.replica.specs.Passage.{IsStuck}
use Rattle.replica.specs.Kept.{IsLonger}
use Rattle.replica.proofs.passage.Passage.go_round.Given as goal

abbrev pub invariant-loop-number : goal.invariant-loop-number
invariant-loop-number l = record {
  longer : IsLonger l.log l.initial.self l.self;
  stuck : length l.self.rows.items ≡ length l.initial.self.rows.items → (thread : ℕ) → thread < l.number → IsStuck l.log l.self.rows.items thread;
}
