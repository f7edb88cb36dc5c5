-- What the gate before a thread's next event tells of its turn.
use Rattle.std.proofs.Common.{◌≡◌, ℕ, ◌<◌, Bool, true, false, cond, nat_lt, Option, Some, None, refl, sym, ap, ◌∙◌, subst, arith}
use Rattle.std.proofs.lemmas.Bool.{lt-ltb}
use Rattle.std.proofs.lemmas.Bool.Decides.{nat_tests}
use Rattle.rw_objects.specs.Space.{Space}
use Rattle.rw_objects.specs.Code.{Code}
use Rattle.rw_objects.specs.declared.entry.Entry.{Entry}
use Rattle.rw_objects.specs.declared.next.Next.{Next}
use Rattle.rw_objects.specs.declared.next.Next.TheVariants as next
use Rattle.event_core.specs.declared.pick.Input.{Input}
use Rattle.event_core.specs.declared.step.PickStep.{PickStep}
use Rattle.event_core.specs.declared.step.PickStep.TheVariants as step
use Rattle.event_core.specs.Threads.{ThreadAt}
use Rattle.event_core.specs.World.{WorldAt, step_of_pick}
use Rattle.log_pieces.specs.declared.end.End.{End}
use Rattle.log_pieces.specs.declared.flat.Flat.{Flat}
use Rattle.log_pieces.specs.declared.flat.Flat.TheVariants as flat
use Rattle.replay_laws.specs.declared.turn.Turn.{Turn}
use Rattle.replay_laws.specs.declared.turn.Turn.TheVariants as turn
use Rattle.replay_laws.specs.declared.turn.Refusal.{Refusal}
use Rattle.replay_laws.specs.declared.turn.Refusal.TheVariants.{Missing, Clash, Shut, Diverged}
use Rattle.replay_laws.specs.Log.{Log}
use Rattle.replay_laws.specs.RunLog.{end_of_thread}
use Rattle.replay_laws.specs.Gates.{is_open}
use Rattle.replay_laws.specs.Turns.{pick_of, input_for, can_give, same_end, turn_by_step, turn_by_item, turn_by_entry, turn_by_place, turn_by_next, turn_by_end, turn_by_thread}
use Rattle.replay_gate.specs.declared.answers.Gate.{Gate}
use Rattle.replay_gate.specs.declared.answers.Gate.TheVariants as gate
use Rattle.replay_gate.specs.Gate.{gate_by_entry, gate_by_end, gate_of}
use Rattle.replay_gate.specs.GateTurns.{IsEventNext, StandsAtGate, IsStepOfEntry, TellsTurn, GatesTellTurns}

-- a step is refused for divergence alone
refused_by_step : {Op : Type 0} (i : Input) (s : PickStep Op) (r : Refusal) → turn_by_step i s ≡ turn.Refused r → r ≡ Diverged
refused_by_step i (step.Refused f) r h = cc
refused_by_step i step.Local r h = cc
refused_by_step i (step.Event op) r h = absurd cc

below : (n m : ℕ) → nat_lt n m ≡ true → n < m
below n m h = grind (arith, nat_tests)

not_below : (n m : ℕ) → nat_lt n m ≡ false → n < m → ⊥
not_below n m h l = grind (arith, nat_tests)

module _ {State Op Reply Value Fixed : Type 0} (space : Space Op Reply Value Fixed) (code : Code State Op Reply Fixed) (log : Log) (w : WorldAt State Value Fixed) (t place : ℕ) where
  abbrev Tells : Gate → Turn → Type 0
  Tells = TellsTurn space code log w t place

  abbrev step_for : Entry → PickStep Op
  step_for item = step_of_pick space code w (pick_of t (input_for item.kind))

  -- a refusal but for divergence is no step of an entry
  no_step : (r : Refusal) → (r ≡ Diverged → ⊥) → IsStepOfEntry space code log w t place (turn.Refused r) → ⊥
  no_step r n s = n (refused_by_step (input_for s.item.kind) (step_for s.item) r (sym s.is))

  missing : Tells gate.Missing (turn.Refused Missing)
  missing = record {
    missing = (λ h. refl, λ h. refl);
    clash = (λ h. absurd cc, λ h. absurd cc);
    shut = (λ h. absurd cc, λ h. absurd cc);
    opens = (λ h. absurd cc, λ s. absurd (no_step Missing (λ e. absurd cc) s));
    event = λ i h. absurd cc;
    past = λ h. absurd cc;
  }

  clash : Tells gate.Clash (turn.Refused Clash)
  clash = record {
    missing = (λ h. absurd cc, λ h. absurd cc);
    clash = (λ h. refl, λ h. refl);
    shut = (λ h. absurd cc, λ h. absurd cc);
    opens = (λ h. absurd cc, λ s. absurd (no_step Clash (λ e. absurd cc) s));
    event = λ i h. absurd cc;
    past = λ h. absurd cc;
  }

  shut : Tells gate.Shut (turn.Refused Shut)
  shut = record {
    missing = (λ h. absurd cc, λ h. absurd cc);
    clash = (λ h. absurd cc, λ h. absurd cc);
    shut = (λ h. refl, λ h. refl);
    opens = (λ h. absurd cc, λ s. absurd (no_step Shut (λ e. absurd cc) s));
    event = λ i h. absurd cc;
    past = λ h. absurd cc;
  }

  past : (end : End) → log.end t ≡ Some (flat.Known end) → (place < end.places → ⊥) → Tells gate.Done (turn.Refused Diverged)
  past end ends not_within = record {
    missing = (λ h. absurd cc, λ h. absurd cc);
    clash = (λ h. absurd cc, λ h. absurd cc);
    shut = (λ h. absurd cc, λ h. absurd cc);
    opens = (λ h. absurd cc, λ s. absurd (not_within (s.within end ends)));
    event = λ i h. absurd cc;
    past = λ h. refl;
  }

  known_same : (a b : End) → Some (flat.Known a) ≡ Some (flat.Known b) → a ≡ b
  known_same a b h = cc

  opens : (end : End) (item : Entry) → log.end t ≡ Some (flat.Known end) → place < end.places → log.entry t place ≡ Some (flat.Known item) → Tells gate.Open (turn_by_step (input_for item.kind) (step_for item))
  opens end item ends within known =
      let only = refused_by_step (input_for item.kind) (step_for item) in
      record {
        missing = (λ h. absurd cc, λ h. absurd (let e = only Missing h in cc));
        clash = (λ h. absurd cc, λ h. absurd (let e = only Clash h in cc));
        shut = (λ h. absurd cc, λ h. absurd (let e = only Shut h in cc));
        opens = (
          λ h. record { item = item; is_known = known; within = λ other is. subst (λ (e : End). place < e.places) (known_same end other (sym ends ∙ is)) within; is = refl },
          λ s. refl,
        );
        event = λ i h. refl;
        past = λ h. absurd cc;
      }

  module _ (n : Next Op) (can : (item : Entry) → log.entry t place ≡ Some (flat.Known item) → can_give space n item ≡ true) (end : End) (ends : log.end t ≡ Some (flat.Known end)) where
    by_open : (item : Entry) → place < end.places → log.entry t place ≡ Some (flat.Known item) → (b : Bool) → Tells (cond b gate.Open gate.Shut) (cond b (turn_by_step (input_for item.kind) (step_for item)) (turn.Refused Shut))
    by_open item within known true = opens end item ends within known
    by_open item within known false = shut

    by_item : (item : Entry) → place < end.places → log.entry t place ≡ Some (flat.Known item) → Tells (gate_by_entry w.memory.counts (Some (flat.Known item))) (turn_by_item space code w t n item)
    by_item item within known =
        let is_open_now = is_open item.found w.memory.counts in
        subst (λ b. Tells (cond is_open_now gate.Open gate.Shut) (cond b (cond is_open_now (turn_by_step (input_for item.kind) (step_for item)) (turn.Refused Shut)) (turn.Refused Diverged))) (sym (can item known))
        (by_open item within known is_open_now)

    by_entry : (o : Option (Flat Entry)) → place < end.places → log.entry t place ≡ o → Tells (gate_by_entry w.memory.counts o) (turn_by_entry space code w t n o)
    by_entry None within is = missing
    by_entry (Some flat.Clash) within is = clash
    by_entry (Some (flat.Known item)) within is = by_item item within is

    by_place : (b : Bool) → nat_lt place end.places ≡ b
        → Tells (cond b (gate_by_entry w.memory.counts (log.entry t place)) gate.Done) (cond b (turn_by_entry space code w t n (log.entry t place)) (turn.Refused Diverged))
    by_place true is = by_entry (log.entry t place) (below place end.places is) refl
    by_place false is = past end ends (not_below place end.places is)

    by_next : (m : Next Op) → m ≡ n → IsEventNext m → turn_by_next space code log w t place end.places m ≡ turn_by_place space code log w t n place end.places
    by_next next.Local e event = absurd event
    by_next (next.Ask op) e event = ap (λ k. turn_by_place space code log w t k place end.places) e
    by_next (next.Asleep resume out) e event = ap (λ k. turn_by_place space code log w t k place end.places) e
    by_next (next.Halted outcome) e event = absurd event

module _ {State Op Reply Value Fixed : Type 0} (space : Space Op Reply Value Fixed) (code : Code State Op Reply Fixed) where
  module _ (log : Log) (w : WorldAt State Value Fixed) (t : ℕ) (thread : ThreadAt State) (at : StandsAtGate space code log w t thread) where
    by_end : (o : Option (Flat End)) → log.end t ≡ o → TellsTurn space code log w t thread.places (gate_by_end w.memory.counts thread.places (log.entry t thread.places) o) (turn_by_end space code log w t thread o)
    by_end None is = missing space code log w t thread.places
    by_end (Some flat.Clash) is = clash space code log w t thread.places
    by_end (Some (flat.Known end)) is =
        let n = code.next thread.state in
        subst (TellsTurn space code log w t thread.places (gate_by_end w.memory.counts thread.places (log.entry t thread.places) (Some (flat.Known end))))
        (sym (
        ap (λ b. cond b (turn_by_next space code log w t thread.places end.places n) (cond (same_end end (end_of_thread code thread)) turn.Done (turn.Refused Diverged))) (lt-ltb _ _ (at.steps_left end is))
        ∙ by_next space code log w t thread.places n at.can end is n refl at.event
        ))
        (by_place space code log w t thread.places n at.can end is (nat_lt thread.places end.places) refl)

  pub gates_tell_turns : GatesTellTurns space code
  gates_tell_turns log w t thread at =
      subst (TellsTurn space code log w t thread.places (gate_of log w.memory.counts t thread.places)) (sym (ap (turn_by_thread space code log w t) at.exists))
      (by_end log w t thread at (log.end t) refl)
