-- Why bytes spell no plan for a module.
use Rattle.std.specs.Prelude.{◌≡◌, ℕ, Result, Err}
use Rattle.thread_plan.specs.declared.fault.PlanFault.{PlanFault}
use Rattle.thread_plan.specs.declared.fault.PlanFault.TheVariants as fault

-- lines are numbered from 1
pub data Refusal : Type 0 where
  BadLine : ℕ → Refusal
  NoExport : ℕ → Refusal
  WrongArguments : ℕ → Refusal
  NotShared : Refusal
  SegmentOutOfBounds : Refusal

-- want of memory, or this answer's refusal, whatever is wrong in the line
abbrev pub IsFaultOf : {X : Type 0} → Result X Refusal → PlanFault → Type 0
IsFaultOf answer (fault.BadLine line cause) = answer ≡ Err (BadLine line)
IsFaultOf answer (fault.NoExport line cause) = answer ≡ Err (NoExport line)
IsFaultOf answer (fault.WrongArguments line cause) = answer ≡ Err (WrongArguments line)
IsFaultOf answer fault.NotShared = answer ≡ Err NotShared
IsFaultOf answer fault.SegmentOutOfBounds = answer ≡ Err SegmentOutOfBounds
IsFaultOf answer fault.NoMemory = Unit {0}
