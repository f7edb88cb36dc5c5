-- Where the turn of a thread is done, the thread stands at its logged end.
use Rattle.std.proofs.Common.{◌≡◌, ℕ, ◌≤◌, Bool, true, false, cond, nat_lt, Option, Some, None, slice_get, refl, sym, ap, ◌∙◌, arith}
use Rattle.std.proofs.lemmas.Bool.{le-ltb}
use Rattle.rw_objects.specs.declared.entry.Entry.{Entry}
use Rattle.rw_objects.specs.declared.next.Next.{Next}
use Rattle.rw_objects.specs.declared.next.Next.TheVariants as next
use Rattle.rw_objects.specs.Space.{Space}
use Rattle.rw_objects.specs.Code.{Code}
use Rattle.event_core.specs.declared.pick.Input.{Input}
use Rattle.event_core.specs.declared.step.PickStep.{PickStep}
use Rattle.event_core.specs.declared.step.PickStep.TheVariants as step
use Rattle.event_core.specs.Threads.{ThreadAt}
use Rattle.event_core.specs.World.{WorldAt, step_of_pick}
use Rattle.log_pieces.specs.Decides.{end_decides}
use Rattle.log_pieces.specs.declared.end.End.{End}
use Rattle.log_pieces.specs.declared.flat.Flat.{Flat}
use Rattle.log_pieces.specs.declared.flat.Flat.TheVariants as flat
use Rattle.replay_laws.specs.declared.turn.Turn.{Turn}
use Rattle.replay_laws.specs.declared.turn.Turn.TheVariants as turn
use Rattle.replay_laws.specs.declared.turn.Refusal.TheVariants.{Shut, Diverged}
use Rattle.replay_laws.specs.Log.{Log}
use Rattle.replay_laws.specs.RunLog.{end_of_thread}
use Rattle.replay_laws.specs.Gates.{is_open, IsFinished}
use Rattle.replay_laws.specs.Turns.{pick_of, input_for, can_give, same_end, turn_by_step, turn_by_entry, turn_by_next, turn_by_end, turn_by_thread, turn_of}

step_not : {Op : Type 0} (i : Input) (s : PickStep Op) → turn_by_step i s ≡ turn.Done → ⊥
step_not i (step.Refused f) h = cc
step_not i step.Local h = cc
step_not i (step.Event op) h = cc

item_not : {Op : Type 0} (a b : Bool) (i : Input) (s : PickStep Op) → cond a (cond b (turn_by_step i s) (turn.Refused Shut)) (turn.Refused Diverged) ≡ turn.Done → ⊥
item_not true true i s h = step_not i s h
item_not true false i s h = cc
item_not false b i s h = cc

place_not : (b : Bool) (x : Turn) → (x ≡ turn.Done → ⊥) → cond b x (turn.Refused Diverged) ≡ turn.Done → ⊥
place_not true x n h = n h
place_not false x n h = cc

module _ {State Op Reply Value Fixed : Type 0} (space : Space Op Reply Value Fixed) (code : Code State Op Reply Fixed) (log : Log) (w : WorldAt State Value Fixed) (t : ℕ) where
  entry_not : (n : Next Op) (o : Option (Flat Entry)) → turn_by_entry space code w t n o ≡ turn.Done → ⊥
  entry_not n None h = cc
  entry_not n (Some flat.Clash) h = cc
  entry_not n (Some (flat.Known item)) h =
      item_not (can_give space n item) (is_open item.found w.memory.counts) (input_for item.kind) (step_of_pick space code w (pick_of t (input_for item.kind))) h

  next_not : (place places : ℕ) (n : Next Op) → turn_by_next space code log w t place places n ≡ turn.Done → ⊥
  next_not place places next.Local h = cc
  next_not place places (next.Ask op) h = place_not (nat_lt place places) _ (entry_not (next.Ask op) (log.entry t place)) h
  next_not place places (next.Asleep resume out) h = place_not (nat_lt place places) _ (entry_not (next.Asleep resume out) (log.entry t place)) h
  next_not place places (next.Halted outcome) h = cc

  by_tests : (b c : Bool) (x : Turn) (e f : End) → (x ≡ turn.Done → ⊥) → same_end e f ≡ c → cond b x (cond c turn.Done (turn.Refused Diverged)) ≡ turn.Done → e ≡ f
  by_tests true c x e f n same h = absurd (n h)
  by_tests false true x e f n same h = (end_decides e f).0 same
  by_tests false false x e f n same h = absurd cc

  by_end : (th : ThreadAt State) (o : Option (Flat End)) → turn_by_end space code log w t th o ≡ turn.Done → o ≡ Some (flat.Known (end_of_thread code th))
  by_end th None h = absurd cc
  by_end th (Some flat.Clash) h = absurd cc
  by_end th (Some (flat.Known e)) h =
      ap (λ x. Some (flat.Known x))
      (by_tests (nat_lt (code.steps th.state) e.steps) (same_end e (end_of_thread code th)) _ e (end_of_thread code th) (next_not th.places e.places (code.next th.state)) refl h)

  pub done_stands : turn_of space code log w t ≡ turn.Done → (th : ThreadAt State) → slice_get w.threads t ≡ Some th → log.end t ≡ Some (flat.Known (end_of_thread code th))
  done_stands h th is = by_end th (log.end t) (sym (ap (turn_by_thread space code log w t) is) ∙ h)

  -- where all stand at their ends, each turn is done
  pub finished_done : IsFinished code log w → turn_of space code log w t ≡ turn.Done
  finished_done f = go (slice_get w.threads t) refl
    where
      go : (o : Option (ThreadAt State)) → slice_get w.threads t ≡ o → turn_by_thread space code log w t o ≡ turn.Done
      go None is = refl
      go (Some th) is =
          let e = end_of_thread code th in
          ap (turn_by_end space code log w t th) (f t th is)
          ∙ ap (λ b. cond b (turn_by_next space code log w t th.places e.places (code.next th.state)) (cond (same_end e e) turn.Done (turn.Refused Diverged))) (le-ltb _ _ (let l : e.steps ≤ e.steps = omega arith in l))
          ∙ ap (λ b. cond b turn.Done (turn.Refused Diverged)) ((end_decides e e).1 refl)
