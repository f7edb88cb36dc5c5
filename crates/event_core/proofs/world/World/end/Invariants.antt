-- How the threads so far stand.
use Rattle.std.proofs.Common.{◌≡◌, map, take}
use Rattle.event_core.specs.End.{outcome_of}
use Rattle.event_core.specs.Threads.{threads_of}
use Rattle.event_core.proofs.world.World.end.Given as goal

abbrev pub invariant-loop-thread : goal.invariant-loop-thread
invariant-loop-thread g l = l.outcomes.items ≡ map (λ t. outcome_of (g.M.Machine.code.next t.state)) (threads_of g.M.Machine.state (take l.thread-index l.thread-items))
