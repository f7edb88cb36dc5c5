use Rattle.std.proofs.Common.{length}
use Rattle.replay_gate.proofs.marks.+is_any_rewritten.Given as goal

abbrev pub decreases-is_any_rewritten : goal.decreases-is_any_rewritten
decreases-is_any_rewritten l = length l.marks.now
