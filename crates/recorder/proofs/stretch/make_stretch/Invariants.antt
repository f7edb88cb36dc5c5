use Rattle.std.proofs.Common.{◌-◌, slice_get}
use Rattle.event_core.specs.World.{world_of}
use Rattle.recorder.specs.Making.{steps_at, Makes}
use Rattle.recorder.proofs.stretch.make_stretch.Given as goal

abbrev pub invariant-loop-left : goal.invariant-loop-left
invariant-loop-left g l = Makes g.S.ObjectSpace.meaning g.M.Machine.code l.steps l.pick l.accesses l.left (world_of l.initial.world) (world_of l.world) l.initial.logs l.logs

abbrev pub decreases-loop-left : goal.decreases-loop-left
decreases-loop-left g l = l.steps - steps_at g.M.Machine.code (slice_get (world_of l.world).threads l.pick.thread)
