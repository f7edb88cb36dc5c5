-- A pick whose step is made.
use Rattle.std.proofs.Common.{◌≡◌, ℕ, ◌&&◌, true, cond, None, slice_get, ap, ◌∙◌}
use Rattle.rw_objects.specs.Code.{Code}
use Rattle.rw_objects.specs.Space.{Space}
use Rattle.event_core.specs.declared.pick.Pick.{Pick}
use Rattle.event_core.specs.declared.step.PickStep.{PickStep}
use Rattle.event_core.specs.PickStep.{is_enabled}
use Rattle.event_core.specs.World.{WorldAt, step_of_pick, answer_of_step, has_steps_left}
use Rattle.recorder.specs.Picks.{is_taken, step_taken, if_ok}

module _ {State Op Reply Value Fixed : Type 0} (space : Space Op Reply Value Fixed) (code : Code State Op Reply Fixed) (steps : ℕ) where
  -- it is taken, and this is its step
  pub record Takes (w : WorldAt State Value Fixed) (p : Pick) (s : PickStep Op) : Type 0 where
    pub taken : is_taken space code steps w p ≡ true
    pub step : step_taken space code steps w p ≡ if_ok (answer_of_step space code w s)

  pub takes : (w : WorldAt State Value Fixed) (p : Pick) (s : PickStep Op) → has_steps_left code steps (slice_get w.threads p.thread) ≡ true → step_of_pick space code w p ≡ s → is_enabled s ≡ true → Takes w p s
  takes w p s left is on =
      let t : is_taken space code steps w p ≡ true = ap (λ b. b && is_enabled (step_of_pick space code w p)) left ∙ ap is_enabled is ∙ on in
      record {
        taken = t;
        step = ap (λ b. cond b (if_ok (answer_of_step space code w (step_of_pick space code w p))) None) t ∙ ap (λ x. if_ok (answer_of_step space code w x)) is;
      }
