-- Runs in two parts.
use Rattle.std.proofs.Common.{◌≡◌, ℕ, Bool, List, [], ◌∷◌, ◌++◌, refl, sym, ap, ◌∙◌, append_assoc}
use Rattle.rw_objects.specs.Space.{Space}
use Rattle.rw_objects.specs.Code.{Code}
use Rattle.event_core.specs.declared.pick.Pick.{Pick}
use Rattle.event_core.specs.World.{WorldAt, step_of_pick, world_after}
use Rattle.event_core.specs.Run.{world_run, IsRun, entries, entries_of_step}
use Rattle.replay_laws.specs.History.{calls_of_step, calls_of_run, RunTimesOut}

module _ {State Op Reply Value Fixed : Type 0} (space : Space Op Reply Value Fixed) (code : Code State Op Reply Fixed) where
  pub run_joined : (w : WorldAt State Value Fixed) (ps qs : List Pick) → IsRun space code w ps → IsRun space code (world_run space code w ps) qs → IsRun space code w (ps ++ qs)
  run_joined w [] qs r s = s
  run_joined w (p ∷ ps) qs r s = (r.0, run_joined (world_after space code w p) ps qs r.1 s)

  pub entries_joined : (w : WorldAt State Value Fixed) (ps qs : List Pick) (x : ℕ) → entries space code w (ps ++ qs) x ≡ entries space code w ps x ++ entries space code (world_run space code w ps) qs x
  entries_joined w [] qs x = refl
  entries_joined w (p ∷ ps) qs x =
      let here = entries_of_step space w.memory p.thread x (step_of_pick space code w p) in
      ap (λ l. here ++ l) (entries_joined (world_after space code w p) ps qs x) ∙ sym (append_assoc here (entries space code (world_after space code w p) ps x) _)

  pub calls_joined : (w : WorldAt State Value Fixed) (ps qs : List Pick) → calls_of_run space code w (ps ++ qs) ≡ calls_of_run space code w ps ++ calls_of_run space code (world_run space code w ps) qs
  calls_joined w [] qs = refl
  calls_joined w (p ∷ ps) qs =
      let here = calls_of_step space w.memory p.thread (step_of_pick space code w p) in
      ap (λ l. here ++ l) (calls_joined (world_after space code w p) ps qs) ∙ sym (append_assoc here (calls_of_run space code (world_after space code w p) ps) _)

  module _ (may : ℕ → State → Bool) where
    pub times_joined : (w : WorldAt State Value Fixed) (ps qs : List Pick) → RunTimesOut space code may w ps → RunTimesOut space code may (world_run space code w ps) qs → RunTimesOut space code may w (ps ++ qs)
    times_joined w [] qs r s = s
    times_joined w (p ∷ ps) qs r s = (r.0, times_joined (world_after space code w p) ps qs r.1 s)
