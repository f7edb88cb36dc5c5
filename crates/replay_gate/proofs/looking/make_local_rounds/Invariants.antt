-- No round was made yet.
use Rattle.std.proofs.Common.{◌≡◌, ◌≤◌}
use Rattle.event_core.specs.World.{world_of}
use Rattle.replay_gate.proofs.looking.make_local_rounds.Given as goal

abbrev pub invariant-loop-rounds : goal.invariant-loop-rounds
invariant-loop-rounds g l = record {
  few : l.rounds ≤ l.most;
  same : world_of l.world ≡ world_of l.fn.world;
}

abbrev pub decreases-loop-rounds : goal.decreases-loop-rounds
decreases-loop-rounds g l = l.rounds
