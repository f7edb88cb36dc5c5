-- the events so far are written
use Rattle.std.proofs.Common.{◌≡◌, ◌++◌}
use Rattle.std.specs.Prelude.{string_bytes}
use Rattle.debugger.specs.Touched.{events_from}
use Rattle.debugger.proofs.touched.write_events.Given as goal

abbrev pub invariant-loop-index : goal.invariant-loop-index
invariant-loop-index g l = record {
  written : string_bytes l.text ≡ string_bytes l.initial.text ++ events_from (g.L.ReadLog.log l.log) l.sought l.thread l.first l.index;
  reads : g.L.ReadLog.reads l.log l.reader;
}
