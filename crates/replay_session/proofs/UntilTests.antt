-- Turns of one thread up to a test of the world behind its steps.
use Rattle.std.proofs.Common.{◌≡◌, ◌⊎◌, ℕ, suc, ◌+◌, Option, Some, None, refl, sym, ap, ◌∙◌, subst, arith, inl, inr}
use Rattle.std.specs.Prelude.{true, false, is_some}
use Rattle.std.proofs.lemmas.Bool.{cases_lt}
use Rattle.rw_objects.specs.Space.{Space}
use Rattle.rw_objects.specs.Code.{Code}
use Rattle.event_core.specs.World.{WorldAt}
use Rattle.replay_laws.specs.Log.{Log}
use Rattle.replay_laws.specs.Turns.{turn_of}
use Rattle.replay_gate.specs.declared.answers.ReplayFault.TheVariants as fault
use Rattle.replay_gate.specs.Turned.{TurnRefused}
use Rattle.replay_session.specs.declared.gone.Ceased.{Ceased}
use Rattle.replay_session.specs.declared.gone.Ceased.TheVariants as ceased
use Rattle.replay_session.specs.Gone.{TurnCeases}
use Rattle.replay_session.specs.Until.{NoneHolds, UntilCeases}
use Rattle.replay_session.specs.Ways.{thread_world, ThreadLeads}

module _ {State Op Reply Value Fixed : Type 0} (space : Space Op Reply Value Fixed) (code : Code State Op Reply Fixed) (log : Log) (holds : WorldAt State Value Fixed → ℕ → Option ℕ) (t : ℕ) where
  pub none_yet : (w : WorldAt State Value Fixed) → NoneHolds space code log holds t w 0
  none_yet w i l = absurd (omega (arith, l))

  -- one step more, behind which the test does not hold
  pub none_on : (n : ℕ) (o : Option ℕ) (w v : WorldAt State Value Fixed) → NoneHolds space code log holds t w n → ThreadLeads space code log t (n + 1) w v → o ≡ holds v t → is_some o ≡ false → NoneHolds space code log holds t w (n + 1)
  none_on n None w v before lead is none i l =
      elim (cases_lt i n) [
        | inl m ↦ before i m
        | inr m ↦
            let at = lead.leads ∙ ap (thread_world space code log w t) (let z : n + 1 ≡ suc i = omega (arith, l, m) in z) in
            ap (λ x. holds x t) (sym at) ∙ sym is
      ]
  none_on n (Some index) w v before lead is none i l = absurd cc

  -- one step more, behind which it does
  pub ceases_there : (n : ℕ) (o : Option ℕ) (w v : WorldAt State Value Fixed) → NoneHolds space code log holds t w n → o ≡ holds v t → is_some o ≡ true → UntilCeases space code log holds t (n + 1) w v ceased.All
  ceases_there n None w v before is some = absurd cc
  ceases_there n (Some index) w v before is some = (n, let z : n + 1 ≡ suc n = omega arith in z, before, (index, sym is))

  -- no step more
  pub ceases_so : (n : ℕ) (x : Ceased) (w u v : WorldAt State Value Fixed) → NoneHolds space code log holds t w n → (x ≡ ceased.All → ⊥) → TurnCeases space code log t u v x → UntilCeases space code log holds t n w v x
  ceases_so n ceased.All w u v before other h = absurd (other refl)
  ceases_so n ceased.Done w u v before other h = (before, ap (λ x. turn_of space code log x t) h.1 ∙ h.0)
  ceases_so n (ceased.Fault f) w u v before other h = (before, subst (λ x. (f ≡ fault.NoMemory) ⊎ TurnRefused space code log x t f) (sym h.1) h.0)
