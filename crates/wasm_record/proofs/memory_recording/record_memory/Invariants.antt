-- The names of the opened memory.
use Rattle.shared_core.specs.Begins.{names_of, lane_names}
use Rattle.wasm_world.specs.Shared.{shared_values}
use Rattle.wasm_record.proofs.memory_recording.record_memory.Given as goal

abbrev pub ghosts-record_workers-J-Naming : goal.ghosts-record_workers-J-Naming
ghosts-record_workers-J-Naming g a = record { chain = a.opened.chain }

abbrev pub ghosts-record_workers-J-Opening : goal.ghosts-record_workers-J-Opening
ghosts-record_workers-J-Opening g a = record {
  named = names_of a.opened.space.space.blocks.limits (shared_values a.opened.space.space.blocks a.opened.space.space.queues) a.opened.count.name (lane_names a.opened.lanes) a.opened.threads;
}
