-- What a refusal behind turns of a thread tells of the log.
use Rattle.std.proofs.Common.{◌≡◌, ◌⊎◌, ℕ, Option, subst, inl, inr}
use Rattle.rw_objects.specs.Space.{Space, SpaceLaws}
use Rattle.rw_objects.specs.Code.{Code, CodeLaws}
use Rattle.event_core.specs.Opening.{IsOpeningWorld}
use Rattle.event_core.specs.World.{WorldAt}
use Rattle.replay_laws.specs.Log.{Log}
use Rattle.replay_gate.specs.Leads.{Leads}
use Rattle.replay_gate.specs.declared.answers.ReplayFault.{ReplayFault}
use Rattle.replay_gate.specs.declared.answers.ReplayFault.TheVariants as fault
use Rattle.replay_gate.specs.Turned.{TurnRefused, IsRightRefusal, IsFreeRefusal}
use Rattle.replay_gate.proofs.Refusing.{right_merely, free_merely}
use Rattle.replay_session.specs.declared.gone.Ceased.{Ceased}
use Rattle.replay_session.specs.declared.gone.Ceased.TheVariants as ceased
use Rattle.replay_session.specs.Events.{EventsCease}
use Rattle.replay_session.specs.Gone.{CeasesSo, IfFault}
use Rattle.replay_session.specs.Until.{UntilCeases}

on_fault : (x : Ceased) {P Q : ReplayFault → Type 0} → ((f : ReplayFault) → P f → Q f) → IfFault x P → IfFault x Q
on_fault ceased.All more h = tt
on_fault ceased.Done more h = tt
on_fault (ceased.Fault f) more h = more f h

module _ {State Op Reply Value Fixed : Type 0} (space : Space Op Reply Value Fixed) (code : Code State Op Reply Fixed) where
  module _ (log : Log) (v : WorldAt State Value Fixed) (t : ℕ) where
    -- where it was a fault by which no further turn was made, memory was wanting or the thread's turn is refused
    abbrev pub Refuses : Ceased → Type 0
    Refuses x = IfFault x (λ f. (f ≡ fault.NoMemory) ⊎ TurnRefused space code log v t f)

    pub cease_refuses : (steps most : ℕ) (x : Ceased) → CeasesSo space code log t steps most v x → Refuses x
    cease_refuses steps most ceased.All h = tt
    cease_refuses steps most ceased.Done h = tt
    cease_refuses steps most (ceased.Fault f) (inl e) = inl e
    cease_refuses steps most (ceased.Fault f) (inr h) = inr h.1

    pub events_refuse : (steps most : ℕ) (w : WorldAt State Value Fixed) (x : Ceased) → EventsCease space code log t steps most w v x → Refuses x
    events_refuse steps most w ceased.All h = tt
    events_refuse steps most w ceased.Done h = tt
    events_refuse steps most w (ceased.Fault f) (inl e) = inl e
    events_refuse steps most w (ceased.Fault f) (inr h) = inr h.1

    pub until_refuses : (holds : WorldAt State Value Fixed → ℕ → Option ℕ) (steps : ℕ) (w : WorldAt State Value Fixed) (x : Ceased) → UntilCeases space code log holds t steps w v x → Refuses x
    until_refuses holds steps w ceased.All h = tt
    until_refuses holds steps w ceased.Done h = tt
    until_refuses holds steps w (ceased.Fault f) h = h.1

  -- and so it is right, and free, where a gated run led there
  module _ (laws : SpaceLaws space) (rules : CodeLaws space code) (log log' : Log) (opened opened' v : WorldAt State Value Fixed) (t : ℕ) (x : Ceased) (same : log' ≡ log) (from : opened' ≡ opened)
      (o : ∥ IsOpeningWorld code opened ∥₁) (h : ∥ Leads space code log' opened' v ∥₁) where
    leads : ∥ Leads space code log opened v ∥₁
    leads = subst (λ l. ∥ Leads space code l opened v ∥₁) same (subst (λ y. ∥ Leads space code log' y v ∥₁) from h)

    pub right_so : Refuses log v t x → IfFault x (IsRightRefusal space code log opened)
    right_so r = on_fault x (λ f. right_merely space code laws rules log opened v t f o leads) r

    pub free_so : Refuses log v t x → IfFault x (IsFreeRefusal space code log opened)
    free_so r = on_fault x (λ f. free_merely space code laws rules log opened v t f o leads) r
