-- How many events turns of one thread make.
use Rattle.std.proofs.Common.{◌≡◌, ◌⊎◌, ℕ, zero, suc, ◌+◌, ◌<◌, ◌≤◌, true, Some, refl, sym, ap, ◌∙◌, subst, arith, inl, inr}
use Rattle.rw_objects.specs.Space.{Space}
use Rattle.rw_objects.specs.Code.{Code, CodeLaws}
use Rattle.event_core.specs.World.{WorldAt}
use Rattle.replay_laws.specs.declared.turn.Turn.{Turn}
use Rattle.replay_laws.specs.declared.turn.Turn.TheVariants as turn
use Rattle.replay_laws.specs.Log.{Log}
use Rattle.replay_laws.specs.Turns.{turn_of, world_after_turn}
use Rattle.replay_gate.specs.declared.answers.ReplayFault.{ReplayFault}
use Rattle.replay_gate.specs.declared.answers.ReplayFault.TheVariants as fault
use Rattle.replay_gate.specs.declared.answers.Turned.{Turned}
use Rattle.replay_gate.specs.declared.answers.Turned.TheVariants as turned
use Rattle.replay_gate.specs.Answers.{makes_step}
use Rattle.replay_gate.specs.Turned.{answer_of_turn, TurnRefused}
use Rattle.replay_session.specs.Events.{event_count, events_of_answer, events_on, EndsByEvent}
use Rattle.replay_session.specs.Gone.{steps_of_answer}
use Rattle.replay_session.specs.Ways.{thread_world, ThreadLeads}
use Rattle.replay_session.proofs.Ways.{further}

-- ---- one turn

-- an answer tells how many events there were
pub events_told : (x : Turn) (a : Turned) → answer_of_turn x ≡ Some a → events_of_answer a ≡ event_count x
events_told turn.Done turned.Done h = refl
events_told turn.Done turned.Local h = absurd cc
events_told turn.Done turned.Event h = absurd cc
events_told turn.Local turned.Done h = absurd cc
events_told turn.Local turned.Local h = refl
events_told turn.Local turned.Event h = absurd cc
events_told (turn.Event input) turned.Done h = absurd cc
events_told (turn.Event input) turned.Local h = absurd cc
events_told (turn.Event input) turned.Event h = refl
events_told (turn.Refused r) a h = absurd cc

pub one_event : (x : Turn) → event_count x ≤ 1
one_event turn.Done = omega arith
one_event turn.Local = omega arith
one_event (turn.Event input) = omega arith
one_event (turn.Refused r) = omega arith

pub few_events : (a : Turned) → events_of_answer a ≤ 1
few_events turned.Done = omega arith
few_events turned.Local = omega arith
few_events turned.Event = omega arith

-- an answer that tells of no step is that the thread is done
pub done_told : (x : Turn) (a : Turned) → answer_of_turn x ≡ Some a → steps_of_answer a ≡ 0 → x ≡ turn.Done
done_told turn.Done a h none = refl
done_told turn.Local turned.Done h none = absurd cc
done_told turn.Local turned.Local h none = absurd (omega (arith, none))
done_told turn.Local turned.Event h none = absurd (omega (arith, none))
done_told (turn.Event input) turned.Done h none = absurd cc
done_told (turn.Event input) turned.Local h none = absurd (omega (arith, none))
done_told (turn.Event input) turned.Event h none = absurd (omega (arith, none))
done_told (turn.Refused r) a h none = absurd cc

pub step_told : (x : Turn) (a : Turned) → answer_of_turn x ≡ Some a → (steps_of_answer a ≡ 0 → ⊥) → makes_step x ≡ true
step_told turn.Done turned.Done h some = absurd (some refl)
step_told turn.Done turned.Local h some = absurd cc
step_told turn.Done turned.Event h some = absurd cc
step_told turn.Local a h some = refl
step_told (turn.Event input) a h some = refl
step_told (turn.Refused r) a h some = absurd cc

-- ---- turns one behind the other

module _ {State Op Reply Value Fixed : Type 0} (space : Space Op Reply Value Fixed) (code : Code State Op Reply Fixed) (log : Log) (t : ℕ) where
  pub done_stays : (w v : WorldAt State Value Fixed) → turn_of space code log w t ≡ turn.Done → v ≡ world_after_turn space code w t (turn_of space code log w t) → v ≡ w
  done_stays w v is after = after ∙ ap (world_after_turn space code w t) is

  -- a refusal that changed nothing, in front of the last of so many events
  pub refused_so : {Few : Type 0} (f : ReplayFault) (w v : WorldAt State Value Fixed) → v ≡ w → Few → (f ≡ fault.NoMemory) ⊎ TurnRefused space code log w t f → (f ≡ fault.NoMemory) ⊎ (Few × TurnRefused space code log v t f)
  refused_so f w v same few (inl e) = inl e
  refused_so f w v same few (inr x) = inr (few, subst (λ y. TurnRefused space code log y t f) (sym same) x)

module _ {State Op Reply Value Fixed : Type 0} (space : Space Op Reply Value Fixed) (code : Code State Op Reply Fixed) (rules : CodeLaws space code) (log : Log) (t : ℕ) where
  pub events_joined : (m n : ℕ) (w : WorldAt State Value Fixed) → events_on space code log t w (m + n) ≡ events_on space code log t w m + events_on space code log t (thread_world space code log w t m) n
  events_joined m zero w = let e = ap (events_on space code log t w) (let z : m + 0 ≡ m = omega arith in z) in omega (arith, e)
  events_joined m (suc n) w =
      let e = ap (events_on space code log t w) (let z : m + suc n ≡ suc (m + n) = omega arith in z) in
      let a = events_joined m n w in
      let b = ap (λ x. event_count (turn_of space code log x t)) (further space code rules log w t m n) in
      omega (arith, e, a, b)

  -- turns that are no events change no count
  pub quiet_on : (m k events : ℕ) (w u : WorldAt State Value Fixed) → ThreadLeads space code log t m w u → events ≡ events_on space code log t w m → events_on space code log t u k ≡ 0 → events ≡ events_on space code log t w (m + k)
  quiet_on m k events w u lead is none =
      let a = events_joined m k w in
      let b = ap (λ x. events_on space code log t x k) lead.leads in
      omega (arith, is, none, a, b)

  pub event_on : (m events e : ℕ) (w v : WorldAt State Value Fixed) → ThreadLeads space code log t m w v → events ≡ events_on space code log t w m → e ≡ event_count (turn_of space code log v t) → events + e ≡ events_on space code log t w (m + 1)
  event_on m events e w v lead is told =
      let a = ap (events_on space code log t w) (let z : m + 1 ≡ suc m = omega arith in z) in
      let b = ap (λ x. event_count (turn_of space code log x t)) lead.leads in
      omega (arith, is, told, a, b)

  -- where all events were made by the last turn, it is one
  pub ends_on : (m events e most : ℕ) (w v : WorldAt State Value Fixed) → ThreadLeads space code log t m w v → e ≡ event_count (turn_of space code log v t) → events < most → events + e ≡ most → EndsByEvent space code log t w (m + 1)
  ends_on m events e most w v lead told few all =
      let b = ap (λ x. event_count (turn_of space code log x t)) lead.leads in
      let one = one_event (turn_of space code log v t) in
      let is : event_count (turn_of space code log (thread_world space code log w t m) t) ≡ 1 = omega (arith, told, few, all, b, one) in
      subst (EndsByEvent space code log t w) (let z : suc m ≡ m + 1 = omega arith in z) is
