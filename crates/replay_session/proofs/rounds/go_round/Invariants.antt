use Rattle.std.proofs.Common.{◌≡◌, ◌+◌, ◌<◌, ◌≤◌, ℕ, false, [], length}
use Rattle.event_core.specs.Threads.{all_steps}
use Rattle.event_core.specs.World.{world_of}
use Rattle.replay_laws.specs.Ordered.{ordered_world}
use Rattle.replay_laws.specs.Turns.{turn_of}
use Rattle.replay_gate.specs.Answers.{makes_step}
use Rattle.replay_session.proofs.rounds.go_round.Given as goal

abbrev pub invariant-loop-thread : goal.invariant-loop-thread
invariant-loop-thread g l = record {
  at : world_of l.replay.world ≡ ordered_world g.S.ObjectSpace.meaning g.M.Machine.code (g.L.ReadLog.log l.fn.replay.log) (world_of l.fn.replay.world) [] l.thread;
  made : all_steps g.M.Machine.code (world_of l.replay.world).threads ≡ all_steps g.M.Machine.code (world_of l.fn.replay.world).threads + l.made;
  few : l.made ≤ l.most;
  each : l.made ≤ l.thread;
  rest : l.made ≡ 0 → (t : ℕ) → t < l.thread → makes_step (turn_of g.S.ObjectSpace.meaning g.M.Machine.code (g.L.ReadLog.log l.fn.replay.log) (world_of l.replay.world) t) ≡ false;
  all : l.thread-end ≡ length (world_of l.fn.replay.world).threads;
  reads : g.L.ReadLog.reads l.replay.log l.reader;
  log : l.replay.log ≡ l.fn.replay.log;
  opens : l.replay.opens ≡ l.fn.replay.opens;
}
