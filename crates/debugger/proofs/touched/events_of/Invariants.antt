-- the events of the threads so far are written, and then those of the threads that are left
use Rattle.std.proofs.Common.{◌≡◌, ◌++◌, drop}
use Rattle.std.specs.Prelude.{string_bytes}
use Rattle.event_core.specs.World.{world_of}
use Rattle.debugger.specs.Touched.{events_of}
use Rattle.debugger.proofs.touched.events_of.Given as goal

abbrev pub invariant-loop-number : goal.invariant-loop-number
invariant-loop-number g l = record {
  written : string_bytes l.text ++ events_of (g.L.ReadLog.log l.log) l.sought l.events l.number (drop l.number (world_of l.world).threads) ≡ events_of (g.L.ReadLog.log l.log) l.sought l.events 0 (world_of l.world).threads;
  reads : g.L.ReadLog.reads l.log l.reader;
}
