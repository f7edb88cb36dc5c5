use Rattle.std.proofs.Common.{◌≡◌, take}
use Rattle.std.specs.List.{list_any}
use Rattle.thread_plan.specs.Hints.{is_atomic}
use Rattle.thread_plan.proofs.atomics.is_any_atomic.Given as goal

-- the instructions so far are looked at
abbrev pub invariant-loop-instr : goal.invariant-loop-instr
invariant-loop-instr l = l.any ≡ list_any is_atomic (take l.instr-index l.code)
