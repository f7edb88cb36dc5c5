-- The names of the opened memory.
use Rattle.shared_core.specs.Begins.{names_of, lane_names}
use Rattle.striped_memory.specs.Shared.{shared_values}
use Rattle.wreplay_bench.proofs.locks.run_loads.Given as goal

abbrev pub ghosts-run_threads-J-Naming : goal.ghosts-run_threads-J-Naming
ghosts-run_threads-J-Naming g a = record { chain = a.opened.chain }

abbrev pub ghosts-run_threads-J-Opening : goal.ghosts-run_threads-J-Opening
ghosts-run_threads-J-Opening g a = record {
  named = names_of a.opened.space.space.blocks.limits (shared_values a.opened.space.space.blocks a.opened.space.space.queues) a.opened.count.name (lane_names a.opened.lanes) a.opened.threads;
}
