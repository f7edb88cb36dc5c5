-- none of the events so far did
use Rattle.std.proofs.Common.{◌≡◌, ◌≤◌, ◌<◌, ◌-◌, ℕ, false}
use Rattle.debugger.specs.declared.made_by.TheConstants.{STRETCH}
use Rattle.debugger.specs.Touched.{is_sought_item}
use Rattle.debugger.proofs.made_by.some_of_thread.Given as goal

abbrev pub invariant-loop-place : goal.invariant-loop-place
invariant-loop-place g l = record {
  none : (q : ℕ) → l.end - STRETCH ≤ q → q < l.place → is_sought_item l.sought ((g.L.ReadLog.log l.log).entry l.thread q) ≡ false;
  reads : g.L.ReadLog.reads l.log l.reader;
}
