-- none of the events of the threads so far did
use Rattle.std.proofs.Common.{◌+◌}
use Rattle.event_core.specs.World.{world_of}
use Rattle.debugger.specs.declared.made_by.TheConstants.{STRETCH}
use Rattle.debugger.specs.Touched.{NoLastBelow}
use Rattle.debugger.proofs.made_by.some_of_stretches.Given as goal

abbrev pub invariant-loop-number : goal.invariant-loop-number
invariant-loop-number g l = record {
  none : NoLastBelow (g.L.ReadLog.log l.log) l.sought (world_of l.world).threads (l.back + STRETCH) l.number;
  reads : g.L.ReadLog.reads l.log l.reader;
}
