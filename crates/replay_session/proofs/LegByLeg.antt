-- A leg of a way, behind the legs before it: where it leads, and what was met on it.
use Rattle.std.proofs.Common.{◌≡◌, ℕ, ◌+◌, ◌<◌, ◌≤◌, List, ◌∷◌, drop, get_or, length, Option, sym, subst, arith}
use Rattle.std.specs.Prelude.{IfSome}
use Rattle.std.proofs.lemmas.List.{drop_more}
use Rattle.rw_objects.specs.Space.{Space}
use Rattle.rw_objects.specs.Code.{Code, CodeLaws}
use Rattle.event_core.specs.World.{WorldAt}
use Rattle.replay_laws.specs.Log.{Log}
use Rattle.replay_gate.specs.declared.breaks.Break.{Break}
use Rattle.replay_session.specs.declared.legs.Leg.{Leg}
use Rattle.replay_session.specs.declared.legs.Leg.TheVariants as leg
use Rattle.replay_session.specs.declared.reverse.Hit.{Hit}
use Rattle.replay_session.specs.Legs.{steps_of_leg, steps_of_way}
use Rattle.replay_session.specs.Reverse.{last_of, StepOfLeg, StepOfWay, IsLastHit}
use Rattle.replay_session.specs.Ways.{LegLeads, WayLeads}
use Rattle.replay_session.proofs.GoingAgain.{first_leads, rest_leads}
use Rattle.replay_session.proofs.LastHits.{few_hit, last_joined}
use Rattle.replay_session.proofs.StepsOfWays.{GoesThrough, through_leg, through_few, leg_forth, leg_back}

module _ {State Op Reply Value Fixed : Type 0} {space : Space Op Reply Value Fixed} {code : Code State Op Reply Fixed} (rules : CodeLaws space code) {log log' : Log} (same : log' ≡ log) (legs : List Leg) (k : ℕ) (below : k < length legs) where
  abbrev here : Leg
  here = get_or legs k (leg.Thread 0 0)

  abbrev rest : List Leg
  rest = drop (k + 1) legs

  split : drop k legs ≡ here ∷ rest
  split = drop_more legs k (leg.Thread 0 0) below

  -- ---- where it leads

  pub here_leads : (u : WorldAt State Value Fixed) → ∥ ((v : WorldAt State Value Fixed) × WayLeads space code log (drop k legs) u v) ∥₁ → ∥ ((v : WorldAt State Value Fixed) × LegLeads space code log' here u v) ∥₁
  here_leads u h =
      subst (λ l. ∥ ((v : WorldAt State Value Fixed) × LegLeads space code l here u v) ∥₁) (sym same)
      (first_leads space code rules log here rest u (subst (λ ls. ∥ ((v : WorldAt State Value Fixed) × WayLeads space code log ls u v) ∥₁) split h))

  pub on_leads : (u x : WorldAt State Value Fixed) → LegLeads space code log' here u x → ∥ ((v : WorldAt State Value Fixed) × WayLeads space code log (drop k legs) u v) ∥₁ → ∥ ((v : WorldAt State Value Fixed) × WayLeads space code log rest x v) ∥₁
  on_leads u x lead h =
      rest_leads space code rules log here rest u x (subst (λ l. LegLeads space code l here u x) same lead) (subst (λ ls. ∥ ((v : WorldAt State Value Fixed) × WayLeads space code log ls u v) ∥₁) split h)

  pub back_leads : (u x v : WorldAt State Value Fixed) → LegLeads space code log' here u x → WayLeads space code log rest x v → WayLeads space code log (drop k legs) u v
  back_leads u x v lead h = subst (λ ls. WayLeads space code log ls u v) (sym split) (x, subst (λ l. LegLeads space code l here u x) same lead, h)

  -- ---- what was met on it

  module _ {w u : WorldAt State Value Fixed} {b : ℕ} (through : GoesThrough space code log legs w b (drop k legs) u) where
    at : GoesThrough space code log legs w b (here ∷ rest) u
    at = subst (λ ls. GoesThrough space code log legs w b ls u) split through

    pub few_behind : b + steps_of_leg here ≤ steps_of_way legs
    few_behind = through_few space code rules log legs w b here rest u at

    pub through_on : (x : WorldAt State Value Fixed) (n : ℕ) → n ≡ steps_of_leg here → LegLeads space code log' here u x → GoesThrough space code log legs w (b + n) rest x
    through_on x n told lead = subst (λ m. GoesThrough space code log legs w (b + m) rest x) (sym told) (through_leg space code rules log legs w b here rest u x (subst (λ l. LegLeads space code l here u x) same lead) at)

    module _ (breaks : List Break) (holds : WorldAt State Value Fixed → ℕ → Option ℕ) (of_leg : Option Hit) (hit : IsLastHit space code log' breaks holds (StepOfLeg space code log' here u) (steps_of_leg here) of_leg) where
      hit_here : IsLastHit space code log breaks holds (StepOfLeg space code log here u) (steps_of_leg here) of_leg
      hit_here = subst (λ l. IsLastHit space code l breaks holds (StepOfLeg space code l here u) (steps_of_leg here) of_leg) same hit

      pub few_there : (most : ℕ) → steps_of_way legs ≤ most → IfSome of_leg (λ hit. b + hit.steps ≤ most)
      few_there most all = let few = few_behind in few_hit space code log breaks holds (StepOfLeg space code log here u) b (steps_of_leg here) most of_leg (omega (arith, few, all)) hit_here

      pub last_there : (n : ℕ) (before last : Option Hit) → n ≡ steps_of_leg here → last ≡ last_of before b of_leg → IsLastHit space code log breaks holds (StepOfWay space code log legs w) b before → IsLastHit space code log breaks holds (StepOfWay space code log legs w) (b + n) last
      last_there n before last told is h =
          subst (λ m. IsLastHit space code log breaks holds (StepOfWay space code log legs w) (b + m) last) (sym told)
          (subst (IsLastHit space code log breaks holds (StepOfWay space code log legs w) (b + steps_of_leg here)) (sym is)
          (last_joined space code log breaks holds (StepOfWay space code log legs w) (StepOfLeg space code log here u) b (steps_of_leg here) (leg_forth space code rules log legs w b here rest u at) (leg_back space code rules log legs w b here rest u at) before of_leg h hit_here))
