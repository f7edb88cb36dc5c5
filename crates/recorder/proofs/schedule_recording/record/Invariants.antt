use Rattle.std.proofs.Common.{take}
use Rattle.event_core.specs.World.{world_of}
use Rattle.pick_schedule.specs.Stretches.{picks_in}
use Rattle.recorder.specs.Recorded.{AreRecorded}
use Rattle.recorder.proofs.schedule_recording.record.Given as goal

abbrev pub invariant-loop-stretch : goal.invariant-loop-stretch
invariant-loop-stretch g l = AreRecorded g.S.ObjectSpace.meaning g.M.Machine.code l.steps (picks_in (take l.stretch-index l.stretches)) (world_of l.initial.world) (world_of l.world) l.initial.logs l.logs 0 l.passed
