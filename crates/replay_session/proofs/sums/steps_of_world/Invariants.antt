use Rattle.std.proofs.Common.{◌≡◌, ◌≤◌, ◌*◌, take}
use Rattle.event_core.specs.Threads.{all_steps}
use Rattle.event_core.specs.World.{world_of}
use Rattle.replay_session.proofs.sums.steps_of_world.Given as goal

abbrev pub invariant-loop-thread : goal.invariant-loop-thread
invariant-loop-thread g l = record {
  sum : l.sum ≡ all_steps g.M.Machine.code (take l.thread (world_of l.world).threads);
  few : l.sum ≤ l.thread * 1000000000;
}
