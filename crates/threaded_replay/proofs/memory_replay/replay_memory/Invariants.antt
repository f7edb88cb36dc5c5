-- The names of the opened memory.
use Rattle.shared_core.specs.Begins.{names_of, lane_names}
use Rattle.wasm_world.specs.Shared.{shared_values}
use Rattle.threaded_replay.proofs.memory_replay.replay_memory.Given as goal

abbrev pub ghosts-replay_by_threads-J-Naming : goal.ghosts-replay_by_threads-J-Naming
ghosts-replay_by_threads-J-Naming g a = record { chain = a.opened.chain }

abbrev pub ghosts-replay_by_threads-J-Opening : goal.ghosts-replay_by_threads-J-Opening
ghosts-replay_by_threads-J-Opening g a = record {
  named = names_of a.opened.space.space.blocks.limits (shared_values a.opened.space.space.blocks a.opened.space.space.queues) a.opened.count.name (lane_names a.opened.lanes) a.opened.threads;
}
