use Rattle.commands.specs.Hunts.{ComesByThreads}
use Rattle.commands.specs.Least.{NoneIsCaught}
use Rattle.commands.proofs.thread_runs.first_by_threads.Given as goal

abbrev pub invariant-loop-done : goal.invariant-loop-done
invariant-loop-done g l = NoneIsCaught (ComesByThreads l.program.valid l.program.plan l.request) l.request.range.from l.done
