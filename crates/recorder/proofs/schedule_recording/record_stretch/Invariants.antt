use Rattle.std.proofs.Common.{◌-◌, ◌≤◌, replicate}
use Rattle.event_core.specs.World.{world_of}
use Rattle.recorder.specs.Recorded.{AreRecorded}
use Rattle.recorder.proofs.schedule_recording.record_stretch.Given as goal

abbrev pub invariant-loop-times : goal.invariant-loop-times
invariant-loop-times g l = record {
  left : l.times ≤ l.fn.stretch.times;
  recorded : AreRecorded g.S.ObjectSpace.meaning g.M.Machine.code l.steps (replicate (l.fn.stretch.times - l.times) l.fn.stretch.pick) (world_of l.initial.world) (world_of l.world) l.initial.logs l.logs l.initial.passed l.passed;
}

abbrev pub decreases-loop-times : goal.decreases-loop-times
decreases-loop-times g l = l.times
