-- Each call has one task fewer.
use Rattle.std.proofs.Common.{length}
use Rattle.workers.proofs.asking.+work_in.Given as goal

abbrev pub decreases-work_in : goal.decreases-work_in
decreases-work_in g l = length l.tasks.items
