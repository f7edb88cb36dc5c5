use Rattle.std.proofs.Common.{◌≡◌, length}
use Rattle.thread_plan.proofs.First.{Noted}
use Rattle.thread_plan.proofs.starts.start_of.Given as goal

abbrev pub invariant-loop-instr : goal.invariant-loop-instr
invariant-loop-instr l = record {
  count : length l.first.items ≡ l.globals;
  noted : Noted l.globals l.code l.instr-index l.first.items;
}
