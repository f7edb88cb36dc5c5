-- What an input does to a thread, by what the thread does next.
use Rattle.std.specs.Prelude.{Bool, true, false, cond, Some, None}
use Rattle.rw_objects.specs.Space.{Space, is_ready}
use Rattle.rw_objects.specs.Memory.{Memory}
use Rattle.rw_objects.specs.declared.next.Next.{Next}
use Rattle.rw_objects.specs.declared.next.Next.TheVariants as next
use Rattle.event_core.specs.declared.pick.Input.{Input}
use Rattle.event_core.specs.declared.pick.Input.TheVariants.{Go, TimeOut}
use Rattle.event_core.specs.declared.step.StepFault.{StepFault}
use Rattle.event_core.specs.declared.step.StepFault.TheVariants as fault
use Rattle.event_core.specs.declared.step.PickStep.{PickStep}
use Rattle.event_core.specs.declared.step.PickStep.TheVariants as step

abbrev pub is_enabled : {Op : Type 0} → PickStep Op → Bool
is_enabled (step.Refused f) = false
is_enabled step.Local = true
is_enabled (step.Event op) = true

module _ {Op Reply Value Fixed : Type 0} (space : Space Op Reply Value Fixed) where
  -- an operation that needs to be ready
  abbrev pub event_if_ready : Memory Value Fixed → Op → StepFault → PickStep Op
  event_if_ready m op f = cond (is_ready space m.fixed m.values op) (step.Event op) (step.Refused f)

  abbrev pub step_of_next : Memory Value Fixed → Next Op → Input → PickStep Op
  step_of_next m (next.Halted outcome) input = step.Refused fault.Halted
  step_of_next m next.Local Go = step.Local
  step_of_next m next.Local TimeOut = step.Refused fault.NotWaiting
  step_of_next m (next.Ask op) Go = step.Event op
  step_of_next m (next.Ask op) TimeOut = step.Refused fault.NotWaiting
  step_of_next m (next.Asleep resume out) Go = event_if_ready m resume fault.Asleep
  step_of_next m (next.Asleep resume None) TimeOut = step.Refused fault.NotWaiting
  step_of_next m (next.Asleep resume (Some out)) TimeOut = event_if_ready m out fault.NotWaiting
