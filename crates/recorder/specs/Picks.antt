-- The picks that a recording takes, and those that it passes over.
use Rattle.std.specs.Prelude.{ℕ, ◌+◌, ◌&&◌, Bool, cond, List, [], ◌∷◌, Option, Some, None, Result, Ok, Err, slice_get}
use Rattle.rw_objects.specs.Code.{Code}
use Rattle.rw_objects.specs.Space.{Space}
use Rattle.event_core.specs.declared.pick.Pick.{Pick}
use Rattle.event_core.specs.declared.step.Stepped.{Stepped}
use Rattle.event_core.specs.declared.step.StepFault.{StepFault}
use Rattle.event_core.specs.PickStep.{is_enabled}
use Rattle.event_core.specs.World.{WorldAt, step_of_pick, world_after, answer_of_pick, has_steps_left}

abbrev pub if_ok : Result Stepped StepFault → Option Stepped
if_ok (Ok s) = Some s
if_ok (Err f) = None

module _ {State Op Reply Value Fixed : Type 0} (space : Space Op Reply Value Fixed) (code : Code State Op Reply Fixed) (steps : ℕ) where
  -- a pick is taken where it is enabled and its thread has made fewer steps
  abbrev pub is_taken : WorldAt State Value Fixed → Pick → Bool
  is_taken w p = has_steps_left code steps (slice_get w.threads p.thread) && is_enabled (step_of_pick space code w p)

  -- the step of a pick that is taken
  abbrev pub step_taken : WorldAt State Value Fixed → Pick → Option Stepped
  step_taken w p = cond (is_taken w p) (if_ok (answer_of_pick space code w p)) None

  -- the picks that are taken in turn
  abbrev pub picks_taken : WorldAt State Value Fixed → List Pick → List Pick
  picks_taken w [] = []
  picks_taken w (p ∷ ps) = cond (is_taken w p) (p ∷ picks_taken (world_after space code w p) ps) (picks_taken w ps)

  -- how many others there are
  abbrev pub picks_passed : WorldAt State Value Fixed → List Pick → ℕ
  picks_passed w [] = 0
  picks_passed w (p ∷ ps) = cond (is_taken w p) (picks_passed (world_after space code w p) ps) (picks_passed w ps + 1)
