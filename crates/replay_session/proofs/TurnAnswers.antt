-- What a turn of a thread tells of the turns so far.
use Rattle.std.proofs.Common.{◌≡◌, ℕ, ◌+◌, ◌<◌, Some, refl, sym, ap, ◌∙◌, subst, inl, inr}
use Rattle.rw_objects.specs.Space.{Space}
use Rattle.rw_objects.specs.Code.{Code, CodeLaws}
use Rattle.event_core.specs.World.{WorldAt}
use Rattle.replay_laws.specs.declared.turn.Turn.{Turn}
use Rattle.replay_laws.specs.declared.turn.Turn.TheVariants as turn
use Rattle.replay_laws.specs.Log.{Log}
use Rattle.replay_laws.specs.Turns.{turn_of, world_after_turn}
use Rattle.replay_gate.specs.declared.answers.Turned.{Turned}
use Rattle.replay_gate.specs.declared.answers.Turned.TheVariants as turned
use Rattle.replay_gate.specs.Answers.{makes_step}
use Rattle.replay_gate.specs.Turned.{answer_of_turn, TurnRefused}
use Rattle.replay_session.specs.declared.gone.Ceased.{Ceased}
use Rattle.replay_session.specs.declared.gone.Ceased.TheVariants as ceased
use Rattle.replay_session.specs.Gone.{steps_of_turn, steps_of_answer, CeasesSo, TurnCeases}
use Rattle.replay_session.specs.Ways.{ThreadLeads}
use Rattle.replay_session.proofs.Ways.{one_turn, no_thread_turns, thread_joined}

-- an answer tells how many steps there were
pub steps_told : (x : Turn) (a : Turned) → answer_of_turn x ≡ Some a → steps_of_answer a ≡ steps_of_turn x
steps_told turn.Done turned.Done h = refl
steps_told turn.Done turned.Local h = absurd cc
steps_told turn.Done turned.Event h = absurd cc
steps_told turn.Local turned.Done h = absurd cc
steps_told turn.Local turned.Local h = refl
steps_told turn.Local turned.Event h = absurd cc
steps_told (turn.Event input) turned.Done h = absurd cc
steps_told (turn.Event input) turned.Local h = absurd cc
steps_told (turn.Event input) turned.Event h = refl
steps_told (turn.Refused r) a h = absurd cc

module _ {State Op Reply Value Fixed : Type 0} (space : Space Op Reply Value Fixed) (code : Code State Op Reply Fixed) (log : Log) (rules : CodeLaws space code) where
  pub step_on : (t m : ℕ) (w u v : WorldAt State Value Fixed) → ThreadLeads space code log t m w u → TurnCeases space code log t u v ceased.All → ThreadLeads space code log t (m + 1) w v
  step_on t m w u v a c = thread_joined space code rules log t m 1 w u v a (one_turn space code rules log t u v c.0 c.1)

  -- a turn leads on by the steps that it makes
  pub turn_leads : (t : ℕ) (w v : WorldAt State Value Fixed) (x : Turn) (a : Turned) → turn_of space code log w t ≡ x → answer_of_turn x ≡ Some a → v ≡ world_after_turn space code w t x → ThreadLeads space code log t (steps_of_turn x) w v
  turn_leads t w v turn.Done a is h after = subst (ThreadLeads space code log t 0 w) (sym after) (no_thread_turns space code rules log t w)
  turn_leads t w v turn.Local a is h after = one_turn space code rules log t w v (ap makes_step is) (after ∙ ap (world_after_turn space code w t) (sym is))
  turn_leads t w v (turn.Event input) a is h after = one_turn space code rules log t w v (ap makes_step is) (after ∙ ap (world_after_turn space code w t) (sym is))
  turn_leads t w v (turn.Refused r) a is h after = absurd cc

  pub turn_goes : (t n : ℕ) (w v : WorldAt State Value Fixed) (a : Turned) → answer_of_turn (turn_of space code log w t) ≡ Some a → v ≡ world_after_turn space code w t (turn_of space code log w t) → n ≡ steps_of_answer a → ThreadLeads space code log t n w v
  turn_goes t n w v a h after is =
      let x = turn_of space code log w t in
      subst (λ m. ThreadLeads space code log t m w v) (sym (is ∙ steps_told x a h)) (turn_leads t w v x a refl h after)

  -- where it makes none, the world stays
  pub still : (t : ℕ) (u v : WorldAt State Value Fixed) (x : Ceased) → (x ≡ ceased.All → ⊥) → TurnCeases space code log t u v x → v ≡ u
  still t u v ceased.All other h = absurd (other refl)
  still t u v ceased.Done other h = h.1
  still t u v (ceased.Fault f) other h = h.1

  pub still_leads : (t m : ℕ) (w u v : WorldAt State Value Fixed) (x : Ceased) → ThreadLeads space code log t m w u → (x ≡ ceased.All → ⊥) → TurnCeases space code log t u v x → ThreadLeads space code log t m w v
  still_leads t m w u v x lead other h = subst (ThreadLeads space code log t m w) (sym (still t u v x other h)) lead

  -- and so fewer were made than were asked for
  pub ceases_below : (t m most : ℕ) (u v : WorldAt State Value Fixed) (x : Ceased) → m < most → (x ≡ ceased.All → ⊥) → TurnCeases space code log t u v x → CeasesSo space code log t m most v x
  ceases_below t m most u v ceased.All few other h = absurd (other refl)
  ceases_below t m most u v ceased.Done few other h = (few, ap (λ y. turn_of space code log y t) h.1 ∙ h.0)
  ceases_below t m most u v (ceased.Fault f) few other h =
      elim (h.0) [
        | inl e ↦ inl e
        | inr r ↦ inr (few, subst (λ y. TurnRefused space code log y t f) (sym h.1) r)
      ]
