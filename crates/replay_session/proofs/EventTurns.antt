-- Turns of one thread, one behind the other, with the events among them counted.
use Rattle.std.proofs.Common.{◌≡◌, ◌⊎◌, ℕ, ◌+◌, ◌<◌, ◌≤◌, Some, sym, ap, ◌∙◌, subst, arith}
use Rattle.rw_objects.specs.Space.{Space}
use Rattle.rw_objects.specs.Code.{Code, CodeLaws}
use Rattle.event_core.specs.World.{WorldAt}
use Rattle.replay_laws.specs.Log.{Log}
use Rattle.replay_laws.specs.Turns.{turn_of, world_after_turn}
use Rattle.replay_gate.specs.declared.answers.ReplayFault.{ReplayFault}
use Rattle.replay_gate.specs.declared.answers.ReplayFault.TheVariants as fault
use Rattle.replay_gate.specs.declared.answers.Turned.{Turned}
use Rattle.replay_gate.specs.Turned.{answer_of_turn, TurnRefused}
use Rattle.replay_session.specs.declared.gone.Ceased.TheVariants as ceased
use Rattle.replay_session.specs.Events.{events_of_answer, events_on, EndsByEvent, EventsCease}
use Rattle.replay_session.specs.Gone.{steps_of_answer}
use Rattle.replay_session.specs.Ways.{ThreadLeads}
use Rattle.replay_session.proofs.EventCounts.{events_told, done_told, step_told, done_stays, quiet_on, event_on, ends_on, refused_so}
use Rattle.replay_session.proofs.Ways.{thread_joined, one_turn}

module _ {State Op Reply Value Fixed : Type 0} (space : Space Op Reply Value Fixed) (code : Code State Op Reply Fixed) (log : Log) (t : ℕ) where
  -- so many turns, so many of them events, lead from one world to another
  pub record Counted (made count : ℕ) (w v : WorldAt State Value Fixed) : Type 0 where
    pub leads : ThreadLeads space code log t made w v
    pub events : count ≡ events_on space code log t w made

  -- a turn was answered so
  pub record Answered (v x : WorldAt State Value Fixed) (a : Turned) : Type 0 where
    pub told : answer_of_turn (turn_of space code log v t) ≡ Some a
    pub after : x ≡ world_after_turn space code v t (turn_of space code log v t)

module _ {State Op Reply Value Fixed : Type 0} {space : Space Op Reply Value Fixed} {code : Code State Op Reply Fixed} {log : Log} {t : ℕ} where
  module _ {made events : ℕ} {w v : WorldAt State Value Fixed} (at : Counted space code log t made events w v) where
    pub answered : {log' : Log} {x : WorldAt State Value Fixed} {a : Turned} → log' ≡ log → answer_of_turn (turn_of space code log' v t) ≡ Some a → x ≡ world_after_turn space code v t (turn_of space code log' v t) → Answered space code log t v x a
    answered {log'} {x} {a} same told after = record {
      told = subst (λ l. answer_of_turn (turn_of space code l v t) ≡ Some a) same told;
      after = subst (λ l. x ≡ world_after_turn space code v t (turn_of space code l v t)) same after;
    }

    -- ---- no turn more

    pub few_counted : {most : ℕ} → events < most → events_on space code log t w made ≤ most
    few_counted below = let e = at.events in omega (arith, e, below)

    pub same_lead : {x : WorldAt State Value Fixed} → x ≡ v → ThreadLeads space code log t made w x
    same_lead same = subst (ThreadLeads space code log t made w) (sym same) at.leads

    pub ceases_refused : {log' : Log} {most : ℕ} {x : WorldAt State Value Fixed} (f : ReplayFault) → log' ≡ log → events < most → x ≡ v → (f ≡ fault.NoMemory) ⊎ TurnRefused space code log' v t f → EventsCease space code log t made most w x (ceased.Fault f)
    ceases_refused {log'} {most} {x} f same below stays refused =
        let e = at.events in
        let few : events_on space code log t w made < most = omega (arith, e, below) in
        refused_so space code log t f v x stays few (subst (λ l. (f ≡ fault.NoMemory) ⊎ TurnRefused space code l v t f) same refused)

    module _ {x : WorldAt State Value Fixed} {a : Turned} (turned : Answered space code log t v x a) where
      pub done_still : steps_of_answer a ≡ 0 → x ≡ v
      done_still none = done_stays space code log t v x (done_told (turn_of space code log v t) a turned.told none) turned.after

      pub ceases_done : {most : ℕ} → events < most → steps_of_answer a ≡ 0 → EventsCease space code log t made most w x ceased.Done
      ceases_done {most} below none =
          let e = at.events in
          let few : events_on space code log t w made < most = omega (arith, e, below) in
          (few, ap (λ y. turn_of space code log y t) (done_still none) ∙ done_told (turn_of space code log v t) a turned.told none)

      -- ---- one turn more

      pub turn_counted : CodeLaws space code → {n : ℕ} → (steps_of_answer a ≡ 0 → ⊥) → n ≡ events_of_answer a → Counted space code log t (made + 1) (events + n) w x
      turn_counted rules {n} some is =
          let y = turn_of space code log v t in
          record {
            leads = thread_joined space code rules log t made 1 w v x at.leads (one_turn space code rules log t v x (step_told y a turned.told some) turned.after);
            events = event_on space code rules log t made events n w v at.leads at.events (is ∙ events_told y a turned.told);
          }

      pub ends_counted : CodeLaws space code → {n most : ℕ} → n ≡ events_of_answer a → events < most → events + n ≡ most → EndsByEvent space code log t w (made + 1)
      ends_counted rules {n} {most} is below all = ends_on space code rules log t made events n most w v at.leads (is ∙ events_told (turn_of space code log v t) a turned.told) below all

  -- turns that are no events behind them
  pub local_counted : CodeLaws space code → {made events k : ℕ} {w u v : WorldAt State Value Fixed} {log' : Log} → Counted space code log t made events w u → log' ≡ log → ThreadLeads space code log' t k u v → events_on space code log' t u k ≡ 0 → Counted space code log t (made + k) events w v
  local_counted rules {made} {events} {k} {w} {u} {v} at same lead quiet = record {
    leads = thread_joined space code rules log t made k w u v at.leads (subst (λ l. ThreadLeads space code l t k u v) same lead);
    events = quiet_on space code rules log t made k events w u at.leads at.events (subst (λ l. events_on space code l t u k ≡ 0) same quiet);
  }
