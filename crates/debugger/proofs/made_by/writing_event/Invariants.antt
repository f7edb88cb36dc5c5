-- none of the last events of the rounds so far did
use Rattle.std.proofs.Common.{◌*◌}
use Rattle.event_core.specs.World.{world_of}
use Rattle.debugger.specs.declared.made_by.TheConstants.{STRETCH}
use Rattle.debugger.specs.Touched.{NoLast}
use Rattle.debugger.proofs.made_by.writing_event.Given as goal

abbrev pub invariant-loop-round : goal.invariant-loop-round
invariant-loop-round g l = record {
  none : NoLast (g.L.ReadLog.log l.log) l.sought (world_of l.world).threads (l.round * STRETCH);
  reads : g.L.ReadLog.reads l.log l.reader;
}
