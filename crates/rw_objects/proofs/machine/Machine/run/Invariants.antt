-- The steps so far were made, and the thread may go on over its memory.
use Rattle.rw_objects.specs.Alone.{alone_with}
use Rattle.rw_objects.specs.Memory.{memory_of}
use Rattle.rw_objects.proofs.Alone.{Gone}
use Rattle.rw_objects.proofs.machine.Machine.run.Given as goal

abbrev pub invariant-loop-steps : goal.invariant-loop-steps
invariant-loop-steps g l =
    Gone g.S.ObjectSpace.meaning g.Self.Machine.code g.L.EntryLog.add l.steps
    (alone_with (g.Self.Machine.state l.initial.self) (memory_of l.initial.memory) (g.L.EntryLog.seen l.initial.log) 0)
    (alone_with (g.Self.Machine.state l.self) (memory_of l.memory) (g.L.EntryLog.seen l.log) l.events)
