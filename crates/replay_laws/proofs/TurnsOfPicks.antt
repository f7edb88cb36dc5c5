-- What a turn does, by the relation of its tests.
use Rattle.std.proofs.Common.{◌≡◌, ℕ, ◌<◌, ◌≤◌, Bool, true, false, cond, nat_lt, List, length, Option, Some, None, slice_get, refl, sym, ap, ◌∙◌, subst, arith, inl, inr}
use Rattle.std.proofs.lemmas.Bool.{ltb-true, ltb-false}
use Rattle.std.proofs.lemmas.Option.{slice_get_within, slice_get_cases}
use Rattle.rw_objects.specs.declared.touch.Found.{Found}
use Rattle.rw_objects.specs.declared.entry.Entry.{Entry}
use Rattle.rw_objects.specs.declared.entry.Kind.{Kind}
use Rattle.rw_objects.specs.declared.entry.Kind.TheVariants.{Access, Woken, TimedOut}
use Rattle.rw_objects.specs.declared.next.Next.{Next as Nexts}
use Rattle.rw_objects.specs.declared.next.Next.TheVariants as nexts
use Rattle.rw_objects.specs.Space.{Space, SpaceLaws}
use Rattle.rw_objects.specs.Code.{Code, CodeLaws, NextFits}
use Rattle.event_core.specs.declared.step.StepFault.{StepFault}
use Rattle.event_core.specs.declared.step.PickStep.{PickStep}
use Rattle.event_core.specs.declared.step.PickStep.TheVariants as step
use Rattle.event_core.specs.Threads.{ThreadAt}
use Rattle.event_core.specs.Sound.{IsSound}
use Rattle.event_core.specs.PickStep.{step_of_next}
use Rattle.event_core.specs.World.{WorldAt, step_of_pick}
use Rattle.event_core.proofs.Threads.{step_some}
use Rattle.event_core.proofs.Steps.{next_local, next_event}
use Rattle.log_pieces.specs.declared.end.End.{End}
use Rattle.log_pieces.specs.declared.flat.Flat.{Flat}
use Rattle.log_pieces.specs.declared.flat.Flat.TheVariants.{Known, Clash}
use Rattle.log_pieces.specs.Decides.{end_decides}
use Rattle.replay_laws.specs.declared.turn.Turn.{Turn}
use Rattle.replay_laws.specs.declared.turn.Turn.TheVariants as turn
use Rattle.replay_laws.specs.declared.turn.Refusal.TheVariants as refusal
use Rattle.replay_laws.specs.Log.{Log, HasLimits}
use Rattle.replay_laws.specs.RunLog.{end_of_thread}
use Rattle.replay_laws.specs.Gates.{is_open}
use Rattle.replay_laws.specs.Turns.{pick_of, input_for, op_for, op_gives, can_give, same_end, turn_by_step, turn_by_entry, turn_by_next, turn_by_end, turn_by_thread, turn_of}
use Rattle.replay_laws.proofs.System.{System}
use Rattle.replay_laws.proofs.Worlds.{action}
use Rattle.replay_laws.proofs.Turns.{Answer, Moved, Passed, Finished, Missing, Clashing, Diverged, Shut, op_for as op_by, HasTouches, CanGive, IsReadyAt, IsItemTurn, Cannot, Is_shut, Not_ready, Passes, OfEntry, IsPlaceTurn, Past_places, At_place, OfNext, IsEndTurn, Ends, Ends_elsewhere, Steps_left, OfEnd, IsTurn, No_thread, Of_thread}
use Rattle.replay_laws.proofs.Views.{going, next_at, state_at, steps_at, places_at, outcome_at, system_of, view}
use Rattle.replay_laws.proofs.Bridge.{does_event}
use Rattle.replay_laws.proofs.Picks.{are_is, are_back, open_is, open_back}

-- the answer of a turn
abbrev pub answer_of : Turn → Answer
answer_of turn.Done = Finished
answer_of turn.Local = Moved
answer_of (turn.Event input) = Passed
answer_of (turn.Refused refusal.Missing) = Missing
answer_of (turn.Refused refusal.Clash) = Clashing
answer_of (turn.Refused refusal.Shut) = Shut
answer_of (turn.Refused refusal.Diverged) = Diverged

refused : {Op : Type 0} (b : Bool) (op : Op) (f g : StepFault) → cond b (step.Event op) (step.Refused f) ≡ step.Refused g → b ≡ true → ⊥
refused true op f g h e = cc
refused false op f g h e = cc

not_both : (b : Bool) → b ≡ false → b ≡ true → ⊥
not_both b e f = let z : false ≡ true = sym e ∙ f in cc

module _ {State Op Reply Value Fixed : Type 0} (space : Space Op Reply Value Fixed) (code : Code State Op Reply Fixed) where
  op_same : (n : Nexts Op) (s : State) (kind : Kind) → op_by (going code n s) kind ≡ op_for n kind
  op_same nexts.Local s kind = refl
  op_same (nexts.Ask op) s Access = refl
  op_same (nexts.Ask op) s Woken = refl
  op_same (nexts.Ask op) s TimedOut = refl
  op_same (nexts.Asleep resume out) s Access = refl
  op_same (nexts.Asleep resume out) s Woken = refl
  op_same (nexts.Asleep resume None) s TimedOut = refl
  op_same (nexts.Asleep resume (Some out)) s TimedOut = refl
  op_same (nexts.Halted outcome) s kind = refl

  module _ (laws : SpaceLaws space) (rules : CodeLaws space code) (log : Log) (limits : HasLimits log) (w : WorldAt State Value Fixed) (sound : IsSound code w.threads w.memory) (t : ℕ) where
    abbrev sys : System Value Op Reply (Option State)
    sys = system_of space code w.memory.fixed (length w.threads)

    gives_is : (o : Option Op) (item : Entry) → op_gives space o item.found ≡ true → HasTouches sys o item
    gives_is None item h = absurd (cc)
    gives_is (Some op) item h = are_is (space.touches op) item.found h

    gives_back : (o : Option Op) (item : Entry) → HasTouches sys o item → op_gives space o item.found ≡ true
    gives_back None item h = absurd h
    gives_back (Some op) item h = are_back (space.touches op) item.found h

    never_ready : (n : Nexts Op) (s : State) (kind : Kind) (fs : List Found) (f : StepFault) → op_gives space (op_for n kind) fs ≡ true → step_of_next space w.memory n (input_for kind) ≡ step.Refused f → IsReadyAt sys (view space code w) (action (going code n s) (input_for kind)) → ⊥
    never_ready nexts.Local s kind fs f g h r = cc
    never_ready (nexts.Ask op) s Access fs f g h r = cc
    never_ready (nexts.Ask op) s Woken fs f g h r = cc
    never_ready (nexts.Ask op) s TimedOut fs f g h r = cc
    never_ready (nexts.Asleep resume out) s Access fs f g h r = cc
    never_ready (nexts.Asleep resume out) s Woken fs f g h r = refused _ resume _ f h r
    never_ready (nexts.Asleep resume None) s TimedOut fs f g h r = r
    never_ready (nexts.Asleep resume (Some out)) s TimedOut fs f g h r = refused _ out _ f h r
    never_ready (nexts.Halted outcome) s kind fs f g h r = cc

    never_local : (n : Nexts Op) (kind : Kind) (fs : List Found) → op_gives space (op_for n kind) fs ≡ true → step_of_next space w.memory n (input_for kind) ≡ step.Local → ⊥
    never_local n kind fs g h = let z : op_gives space (op_for nexts.Local kind) fs ≡ true = subst (λ k. op_gives space (op_for k kind) fs ≡ true) (next_local space w.memory n (input_for kind) h) g in cc

    module _ (th : ThreadAt State) (is : slice_get w.threads t ≡ Some th) (e : End) (ends : log.end t ≡ Some (Known e)) (n : Nexts Op) (does : code.next th.state ≡ n) where
      next_is : sys.next ((view space code w).state t) ≡ going code n th.state
      next_is = ap (λ o. next_at code (state_at code o)) is ∙ ap (λ k. going code k th.state) does

      place_is : (view space code w).places t ≡ th.places
      place_is = ap (places_at code) is

      can_is : (item : Entry) → can_give space n item ≡ true → CanGive sys (view space code w) t item
      can_is item h =
          subst (λ k. HasTouches sys (op_by k item.kind) item) (sym next_is)
          (subst (λ o. HasTouches sys o item) (sym (op_same n th.state item.kind)) (gives_is (op_for n item.kind) item h))

      can_back : (item : Entry) → CanGive sys (view space code w) t item → can_give space n item ≡ true
      can_back item h =
          gives_back (op_for n item.kind) item
          (subst (λ o. HasTouches sys o item) (op_same n th.state item.kind) (subst (λ k. HasTouches sys (op_by k item.kind) item) next_is h))

      of_item : code.steps th.state < 1000000000 → (item : Entry) (b c : Bool) (j : PickStep Op) → can_give space n item ≡ b → is_open item.found w.memory.counts ≡ c → step_of_pick space code w (pick_of t (input_for item.kind)) ≡ j
          → IsItemTurn sys (view space code w) t (answer_of (cond b (cond c (turn_by_step (input_for item.kind) j) (turn.Refused refusal.Shut)) (turn.Refused refusal.Diverged))) item
      of_item able item false c j g o q = Cannot (λ h. not_both _ g (can_back item h)) refl
      of_item able item true false j g o q = Is_shut (can_is item g) (λ h. not_both _ o (open_back space code w item.found h)) refl
      of_item able item true true (step.Refused f) g o q =
          Not_ready (can_is item g) (open_is space code laws rules w item.found o)
          (λ r. never_ready n th.state item.kind item.found f g
          (ap (λ k. step_of_next space w.memory k (input_for item.kind)) (sym does) ∙ sym (step_some space code w (pick_of t (input_for item.kind)) th is able) ∙ q)
          (subst (λ k. IsReadyAt sys (view space code w) (action k (input_for item.kind))) next_is r))
          refl
      of_item able item true true step.Local g o q =
          absurd (never_local n item.kind item.found g
          (ap (λ k. step_of_next space w.memory k (input_for item.kind)) (sym does) ∙ sym (step_some space code w (pick_of t (input_for item.kind)) th is able) ∙ q))
      of_item able item true true (step.Event op) g o q =
          let by_next : step_of_next space w.memory (code.next th.state) (input_for item.kind) ≡ step.Event op = sym (step_some space code w (pick_of t (input_for item.kind)) th is able) ∙ q in
          let one = sound.each t th is in
          let fits : NextFits space w.memory.fixed (code.next th.state) = subst (λ x. NextFits space x (code.next th.state)) one.fixed (rules.fits th.state one.is_suited) in
          let made = next_event space laws w.memory (code.next th.state) (input_for item.kind) op fits (rules.kinds th.state) by_next in
          let acts = does_event space code w.memory (code.next th.state) th.state (input_for item.kind) op (rules.kinds th.state) by_next in
          Passes (can_is item g) (open_is space code laws rules w item.found o)
          (subst (λ k. IsReadyAt sys (view space code w) (action k (input_for item.kind))) (sym (ap (λ o. next_at code (state_at code o)) is)) (subst (IsReadyAt sys (view space code w)) (sym acts) made.ready))
          refl

      of_entry : code.steps th.state < 1000000000 → (o : Option (Flat Entry)) → OfEntry sys (view space code w) t (answer_of (turn_by_entry space code w t n o)) o
      of_entry able None = refl
      of_entry able (Some (Known item)) = of_item able item (can_give space n item) (is_open item.found w.memory.counts) (step_of_pick space code w (pick_of t (input_for item.kind))) refl refl refl
      of_entry able (Some Clash) = refl

      of_place : code.steps th.state < 1000000000 → (b : Bool) → nat_lt th.places e.places ≡ b
          → IsPlaceTurn sys log (view space code w) t (answer_of (cond b (turn_by_entry space code w t n (log.entry t th.places)) (turn.Refused refusal.Diverged))) e
      of_place able true l =
          let less : th.places < e.places = ltb-true _ _ l in
          At_place (omega (arith, less, place_is)) (subst (λ p. OfEntry sys (view space code w) t (answer_of (turn_by_entry space code w t n (log.entry t th.places))) (log.entry t p)) (sym place_is) (of_entry able (log.entry t th.places)))
      of_place able false l = let past : e.places ≤ th.places = ltb-false _ _ l in Past_places (omega (arith, past, place_is)) refl

    of_next : (th : ThreadAt State) → slice_get w.threads t ≡ Some th → (e : End) → log.end t ≡ Some (Known e) → code.steps th.state < 1000000000 → (n : Nexts Op) → code.next th.state ≡ n
        → OfNext sys log (view space code w) t (answer_of (turn_by_next space code log w t th.places e.places n)) e (going code n th.state)
    of_next th is e ends able nexts.Local does = refl
    of_next th is e ends able (nexts.Ask op) does = of_place th is e ends (nexts.Ask op) does able (nat_lt th.places e.places) refl
    of_next th is e ends able (nexts.Asleep resume out) does = of_place th is e ends (nexts.Asleep resume out) does able (nat_lt th.places e.places) refl
    of_next th is e ends able (nexts.Halted outcome) does = refl

    of_steps : (th : ThreadAt State) → slice_get w.threads t ≡ Some th → (e : End) → log.end t ≡ Some (Known e) → (b c : Bool) → nat_lt (code.steps th.state) e.steps ≡ b → same_end e (end_of_thread code th) ≡ c
        → IsEndTurn sys log (view space code w) t (answer_of (cond b (turn_by_next space code log w t th.places e.places (code.next th.state)) (cond c turn.Done (turn.Refused refusal.Diverged)))) e
    of_steps th is e ends true c l s =
        let less : code.steps th.state < e.steps = ltb-true _ _ l in
        let steps_is : (view space code w).steps t ≡ code.steps th.state = ap (steps_at code) is in
        Steps_left (omega (arith, less, steps_is))
        (subst (λ o. OfNext sys log (view space code w) t (answer_of (turn_by_next space code log w t th.places e.places (code.next th.state))) e (next_at code (state_at code o))) (sym is)
        (of_next th is e ends (omega (arith, less, limits t e ends)) (code.next th.state) refl))
    of_steps th is e ends false true l s =
        let past : e.steps ≤ code.steps th.state = ltb-false _ _ l in
        let steps_is : (view space code w).steps t ≡ code.steps th.state = ap (steps_at code) is in
        Ends (omega (arith, past, steps_is)) ((end_decides e (end_of_thread code th)).0 s ∙ sym (ap (λ o. record { steps = steps_at code o; places = places_at code o; outcome = outcome_at code (state_at code o) }) is)) refl
    of_steps th is e ends false false l s =
        let past : e.steps ≤ code.steps th.state = ltb-false _ _ l in
        let steps_is : (view space code w).steps t ≡ code.steps th.state = ap (steps_at code) is in
        Ends_elsewhere (omega (arith, past, steps_is))
        (λ h. not_both _ s ((end_decides e (end_of_thread code th)).1 (h ∙ ap (λ o. record { steps = steps_at code o; places = places_at code o; outcome = outcome_at code (state_at code o) }) is))) refl

    of_end : (th : ThreadAt State) → slice_get w.threads t ≡ Some th → (o : Option (Flat End)) → log.end t ≡ o → OfEnd sys log (view space code w) t (answer_of (turn_by_end space code log w t th o)) o
    of_end th is None q = refl
    of_end th is (Some (Known e)) q = of_steps th is e q (nat_lt (code.steps th.state) e.steps) (same_end e (end_of_thread code th)) refl refl
    of_end th is (Some Clash) q = refl

    of_thread : (o : Option (ThreadAt State)) → slice_get w.threads t ≡ o → IsTurn sys log (view space code w) t (answer_of (turn_by_thread space code log w t o))
    of_thread None is = No_thread (elim (slice_get_cases w.threads t).1 [ inl e ↦ absurd (let z : None ≡ Some e.0 = sym is ∙ e.2 in cc) | inr e ↦ e.0 ]) refl
    of_thread (Some th) is = Of_thread (slice_get_within w.threads t th is) (of_end th is (log.end t) refl)

    -- a turn answers what its tests say
    pub turn_is : IsTurn sys log (view space code w) t (answer_of (turn_of space code log w t))
    turn_is = of_thread (slice_get w.threads t) refl
