-- The names of the opened memory.
use Rattle.shared_core.specs.Begins.{names_of, lane_names}
use Rattle.waiter_queues.specs.Shared.{shared_values}
use Rattle.shared_tests.proofs.resting.a_seat_without_a_thread_ends_a_rest.Given as goal

abbrev pub ghosts-rests_alone-J-Naming : goal.ghosts-rests_alone-J-Naming
ghosts-rests_alone-J-Naming g a = record { chain = a.opened.chain }

abbrev pub ghosts-rests_alone-J-Opening : goal.ghosts-rests_alone-J-Opening
ghosts-rests_alone-J-Opening g a = record {
  named = names_of a.opened.space.space.blocks.limits (shared_values a.opened.space.space.blocks a.opened.space.space.queues) a.opened.count.name (lane_names a.opened.lanes) a.opened.threads;
}
