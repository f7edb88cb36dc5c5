use Rattle.std.proofs.Common.{◌≡◌, ◌+◌, ◌≤◌, ◌++◌, length}
use Rattle.std.specs.List.{filter}
use Rattle.event_core.specs.World.{world_of}
use Rattle.recorder.specs.Picks.{is_taken}
use Rattle.recorder.specs.Draw.{picks_by}
use Rattle.recorder.proofs.candidates.add_taken.Given as goal

abbrev pub invariant-loop-thread : goal.invariant-loop-thread
invariant-loop-thread g l = record {
  picks : l.picks ≡ l.initial.picks ++ filter (is_taken g.S.ObjectSpace.meaning g.M.Machine.code l.steps (world_of l.world)) (picks_by l.input l.thread);
  few : length l.picks ≤ length l.initial.picks + l.thread;
}
