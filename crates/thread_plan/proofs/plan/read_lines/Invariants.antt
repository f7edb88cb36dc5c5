use Rattle.std.proofs.Common.{length}
use Rattle.text_lines.specs.Parts.{parts_left}
use Rattle.thread_plan.proofs.PlanLemmas.{IsReadUpTo}
use Rattle.thread_plan.proofs.plan.read_lines.Given as goal

-- the threads so far, and the lines that are left
abbrev pub invariant-loop-line : goal.invariant-loop-line
invariant-loop-line l = IsReadUpTo l.valid (parts_left l.fn.lines) l.threads.items (parts_left l.lines)

abbrev pub decreases-loop-line : goal.decreases-loop-line
decreases-loop-line l = length (parts_left l.lines)
