-- Steps that are free stay so where no rounds were made.
use Rattle.std.proofs.Common.{◌≡◌, ℕ, List, get_or, slice_get, sym, ap, ◌∙◌, subst, inl, inr}
use Rattle.rw_objects.specs.Space.{Space}
use Rattle.rw_objects.specs.Code.{Code}
use Rattle.event_core.specs.LocalRun.{thread_in}
use Rattle.event_core.specs.Threads.{ThreadAt}
use Rattle.event_core.specs.World.{WorldAt}
use Rattle.replay_laws.specs.Log.{Log}
use Rattle.replay_gate.specs.LocalRounds.{RoundsLead, AreLocalRounds, RoundsOf}
use Rattle.replay_gate.specs.declared.breaks.Break.{Break}
use Rattle.replay_gate.specs.Free.{AreFree}
use Rattle.replay_gate.proofs.LocalRounds.{same_lists}
use Rattle.replay_gate.proofs.FreeSteps.{free_same}

module _ {State Op Reply Value Fixed : Type 0} (space : Space Op Reply Value Fixed) (code : Code State Op Reply Fixed) (log : Log) where
  same_thread : (w : WorldAt State Value Fixed) (t : ℕ) (before after : ThreadAt State) → RoundsOf space code log 0 w t before after → after ≡ before
  same_thread w t before after r =
      elim r [
        | inl g ↦ g.2 ∙ ap (λ s. thread_in s before) (sym g.1.goes)
        | inr h ↦ h.1
      ]

  same_threads : (w v : WorldAt State Value Fixed) → AreLocalRounds space code log 0 w v → v.threads ≡ w.threads
  same_threads w v r = same_lists v.threads w.threads r.len (λ t after before h e. same_thread w t before after (r.each t before after e h))

  none_on : (breaks : List Break) (free : List ℕ) (w v : WorldAt State Value Fixed) → RoundsLead space code log 0 w v → AreFree code log w breaks free → AreFree code log v breaks free
  none_on breaks free w v lead f =
      elim lead [
        | inl z ↦ subst (λ x. AreFree code log x breaks free) (sym z.1) f
        | inr r ↦ λ t. free_same code log breaks w v t (get_or free t 0) (ap (λ ts. slice_get ts t) (same_threads w v r)) (f t)
      ]

  pub free_still : (breaks : List Break) (free : List ℕ) (k : ℕ) (w v : WorldAt State Value Fixed) → k ≡ 0 → RoundsLead space code log k w v → AreFree code log w breaks free → AreFree code log v breaks free
  free_still breaks free k w v e lead f = none_on breaks free w v (subst (λ n. RoundsLead space code log n w v) e lead) f

  none_stay : (w v : WorldAt State Value Fixed) → RoundsLead space code log 0 w v → v ≡ w
  none_stay w v lead =
      elim lead [
        | inl z ↦ z.1
        | inr r ↦ ap (λ ts. let x : WorldAt State Value Fixed = record { threads = ts; memory = v.memory } in x) (same_threads w v r) ∙ ap (λ m. let x : WorldAt State Value Fixed = record { threads = w.threads; memory = m } in x) r.memory
      ]

  -- no rounds leave the world
  pub stays_still : (k : ℕ) (w v : WorldAt State Value Fixed) → k ≡ 0 → RoundsLead space code log k w v → v ≡ w
  stays_still k w v e lead = none_stay w v (subst (λ n. RoundsLead space code log n w v) e lead)
