-- The world, and the step of a pick.
use Rattle.std.specs.Prelude.{Result, Ok, Err, ℕ, Bool, false, cond, List, Option, Some, None, slice_get, nat_lt}
use Rattle.rw_objects.specs.Code.{Code}
use Rattle.rw_objects.specs.Space.{Space, reply_of}
use Rattle.rw_objects.specs.Memory.{Memory, memory_of, memory_after, entry_of}
use Rattle.rw_objects.specs.declared.space.ObjectSpace.{Ghosts as SpaceGhosts}
use Rattle.rw_objects.specs.declared.machine.Machine.{Ghosts as MachineGhosts}
use Rattle.wasm_types.specs.declared.sizes.TheConstants.{MOST_STEPS}
use Rattle.event_core.specs.declared.world.World.{World}
use Rattle.event_core.specs.declared.pick.Pick.{Pick}
use Rattle.event_core.specs.declared.pick.Input.{Input}
use Rattle.event_core.specs.declared.step.StepFault.{StepFault}
use Rattle.event_core.specs.declared.step.StepFault.TheVariants as fault
use Rattle.event_core.specs.declared.step.PickStep.{PickStep}
use Rattle.event_core.specs.declared.step.PickStep.TheVariants as step
use Rattle.event_core.specs.declared.step.Stepped.{Stepped}
use Rattle.event_core.specs.declared.step.Stepped.TheVariants as stepped
use Rattle.event_core.specs.PickStep.{step_of_next}
use Rattle.event_core.specs.Threads.{ThreadAt, threads_of, change_at, thread_after_local, thread_after_reply}

-- every thread, and for each object its value, its version and its read total
pub record WorldAt (State Value Fixed : Type 0) : Type 0 where
  pub threads : List (ThreadAt State)
  pub memory : Memory Value Fixed

module _ {State Op Reply Value Fixed : Type 0} (space : Space Op Reply Value Fixed) (code : Code State Op Reply Fixed) where
  -- a thread that does not exist, or that made 1,000,000,000 steps, has none
  abbrev pub step_of_thread : Memory Value Fixed → Option (ThreadAt State) → Input → PickStep Op
  step_of_thread m None input = step.Refused fault.Halted
  step_of_thread m (Some t) input = cond (nat_lt (code.steps t.state) MOST_STEPS) (step_of_next space m (code.next t.state) input) (step.Refused fault.Halted)

  -- the step of a pick
  abbrev pub step_of_pick : WorldAt State Value Fixed → Pick → PickStep Op
  step_of_pick w pick = step_of_thread w.memory (slice_get w.threads pick.thread) pick.input

  -- a local step changes one thread alone; an event has its effect on the objects, and gives the thread its reply
  abbrev pub world_after_step : WorldAt State Value Fixed → ℕ → PickStep Op → WorldAt State Value Fixed
  world_after_step w t (step.Refused f) = w
  world_after_step w t step.Local = record { threads = change_at w.threads t (thread_after_local code); memory = w.memory }
  world_after_step w t (step.Event op) = record {
    threads = change_at w.threads t (thread_after_reply code (reply_of space w.memory.fixed w.memory.values op));
    memory = memory_after space w.memory op;
  }

  -- what a pick leaves
  abbrev pub world_after : WorldAt State Value Fixed → Pick → WorldAt State Value Fixed
  world_after w pick = world_after_step w pick.thread (step_of_pick w pick)

  abbrev pub answer_of_step : WorldAt State Value Fixed → PickStep Op → Result Stepped StepFault
  answer_of_step w (step.Refused f) = Err f
  answer_of_step w step.Local = Ok stepped.Local
  answer_of_step w (step.Event op) = Ok (stepped.Event (entry_of space w.memory op))

  -- what a pick answers where memory can be had
  abbrev pub answer_of_pick : WorldAt State Value Fixed → Pick → Result Stepped StepFault
  answer_of_pick w pick = answer_of_step w (step_of_pick w pick)

module _ {State Op Reply Fixed : Type 0} (code : Code State Op Reply Fixed) where
  -- the thread exists and has made fewer steps
  abbrev pub has_steps_left : ℕ → Option (ThreadAt State) → Bool
  has_steps_left steps None = false
  has_steps_left steps (Some t) = nat_lt (code.steps t.state) steps

-- what the code's world is
abbrev pub world_of : {M S State Op Reply Value Fixed : Type 0} {machine : MachineGhosts M S State Op Reply Value Fixed} {objects : SpaceGhosts S Op Reply Value Fixed} → World M S State Op Reply Value Fixed machine objects → WorldAt State Value Fixed
world_of {machine = g} w = record { threads = threads_of g.state w.threads.items; memory = memory_of w.memory }
