-- The names of the opened cells.
use Rattle.shared_core.specs.Begins.{names_of, lane_names}
use Rattle.scripted.specs.Cells.{cell_values}
use Rattle.shared_tests.proofs.cells.run_cells.Given as goal

abbrev pub ghosts-run_threads-J-Naming : goal.ghosts-run_threads-J-Naming
ghosts-run_threads-J-Naming g a = record { chain = a.opened.chain }

abbrev pub ghosts-run_threads-J-Opening : goal.ghosts-run_threads-J-Opening
ghosts-run_threads-J-Opening g a = record {
  named = names_of tt (cell_values a.opened.space.cells) a.opened.count.name (lane_names a.opened.lanes) a.opened.threads;
}
