use Rattle.std.proofs.Common.{length}
use Rattle.rw_objects.proofs.versions.Versions.+finds.Given as goal

abbrev pub decreases-finds : goal.decreases-finds
decreases-finds l = length l.touches.now
