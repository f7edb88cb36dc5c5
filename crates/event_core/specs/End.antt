-- The end of a run.
use Rattle.std.specs.Prelude.{ℕ, List}
use Rattle.wasm_types.specs.declared.outcome.Outcome.{Outcome}
use Rattle.wasm_types.specs.declared.outcome.Outcome.TheVariants as outcome
use Rattle.rw_objects.specs.declared.next.Next.{Next}
use Rattle.rw_objects.specs.declared.next.Next.TheVariants as next

-- the bytes of the memory, and how each thread stands
pub record RunEnd : Type 0 where
  pub memory : List ℕ
  pub outcomes : List Outcome

-- how a thread stands, by what it does next
abbrev pub outcome_of : {Op : Type 0} → Next Op → Outcome
outcome_of next.Local = outcome.Running
outcome_of (next.Ask op) = outcome.Running
outcome_of (next.Asleep resume out) = outcome.Waiting
outcome_of (next.Halted outcome) = outcome
