use Rattle.std.proofs.Common.{◌≡◌, map}
use Rattle.event_core.specs.Threads.{threads_of, opening_thread}
use Rattle.event_core.proofs.thread.open.Given as goal

abbrev pub invariant-loop-machine : goal.invariant-loop-machine
invariant-loop-machine g l = threads_of g.M.Machine.state l.threads.items ≡ map opening_thread (map g.M.Machine.state l.yielded)
