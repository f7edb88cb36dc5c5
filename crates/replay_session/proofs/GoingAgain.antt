-- A way that leads somewhere is gone leg by leg.
use Rattle.std.proofs.Common.{ℕ, List, ◌∷◌, subst}
use Rattle.std.proofs.Math.Logic.{∥∥₁_elim, ∥∥₁_map}
use Rattle.rw_objects.specs.Space.{Space}
use Rattle.rw_objects.specs.Code.{Code, CodeLaws}
use Rattle.event_core.specs.World.{WorldAt}
use Rattle.replay_laws.specs.Log.{Log}
use Rattle.replay_session.specs.declared.legs.Leg.{Leg}
use Rattle.replay_session.specs.Rounds.{RunsDry}
use Rattle.replay_session.specs.Ways.{TurnsLead, LegLeads, WayLeads}
use Rattle.replay_session.proofs.RoundTurns.{not_dry}
use Rattle.replay_session.proofs.Ways.{leg_once}

no_prop : IsProp ⊥
no_prop a b = absurd a

module _ {State Op Reply Value Fixed : Type 0} (space : Space Op Reply Value Fixed) (code : Code State Op Reply Fixed) (rules : CodeLaws space code) (log : Log) where
  -- ---- a leg

  pub never_dry : (n : ℕ) (w u : WorldAt State Value Fixed) → RunsDry space code log n w u → ∥ ((v : WorldAt State Value Fixed) × TurnsLead space code log n w v) ∥₁ → ⊥
  never_dry n w u d h = ∥∥₁_elim h no_prop (λ x. not_dry space code rules log w n u x.0 d x.1)

  -- ---- leg by leg

  pub first_leads : (l : Leg) (ls : List Leg) (u : WorldAt State Value Fixed) → ∥ ((v : WorldAt State Value Fixed) × WayLeads space code log (l ∷ ls) u v) ∥₁ → ∥ ((v : WorldAt State Value Fixed) × LegLeads space code log l u v) ∥₁
  first_leads l ls u h = ∥∥₁_map h (λ x. (x.1.0, x.1.1))

  pub rest_leads : (l : Leg) (ls : List Leg) (u x : WorldAt State Value Fixed) → LegLeads space code log l u x → ∥ ((v : WorldAt State Value Fixed) × WayLeads space code log (l ∷ ls) u v) ∥₁ → ∥ ((v : WorldAt State Value Fixed) × WayLeads space code log ls x v) ∥₁
  rest_leads l ls u x a h = ∥∥₁_map h (λ y. (y.0, subst (λ z. WayLeads space code log ls z y.0) (leg_once space code rules log l u y.1.0 x y.1.1 a) y.1.2))
