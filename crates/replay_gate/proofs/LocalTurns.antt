-- Turns of threads whose next step is local, and of those whose next step is not.
use Rattle.std.proofs.Common.{◌≡◌, ℕ, ◌<◌, Bool, true, false, cond, nat_lt, Option, Some, None, slice_get, refl, sym, ap, ◌∙◌, subst, arith}
use Rattle.std.proofs.lemmas.Bool.{lt-ltb, ltb-true}
use Rattle.rw_objects.specs.declared.entry.Entry.{Entry}
use Rattle.rw_objects.specs.declared.next.Next.{Next}
use Rattle.rw_objects.specs.declared.next.Next.TheVariants as next
use Rattle.std.specs.Prelude.{Result, Ok, Err, IfOk, OnErr}
use Rattle.rw_objects.specs.Space.{Space, SpaceLaws}
use Rattle.rw_objects.specs.Code.{Code, CodeLaws}
use Rattle.event_core.specs.declared.pick.Input.{Input}
use Rattle.event_core.specs.declared.pick.Input.TheVariants.{Go}
use Rattle.event_core.specs.declared.step.PickStep.{PickStep}
use Rattle.event_core.specs.declared.step.PickStep.TheVariants as step
use Rattle.event_core.specs.PickStep.{step_of_next}
use Rattle.event_core.specs.Threads.{ThreadAt}
use Rattle.event_core.specs.World.{WorldAt, step_of_pick, world_after_step}
use Rattle.event_core.proofs.Steps.{thread_local}
use Rattle.event_core.proofs.Threads.{step_some}
use Rattle.log_pieces.specs.declared.end.End.{End}
use Rattle.log_pieces.specs.declared.flat.Flat.{Flat}
use Rattle.log_pieces.specs.declared.flat.Flat.TheVariants as flat
use Rattle.replay_laws.specs.declared.turn.Turn.{Turn}
use Rattle.replay_laws.specs.declared.turn.Turn.TheVariants as turn
use Rattle.replay_laws.specs.declared.turn.Refusal.TheVariants.{Shut, Diverged}
use Rattle.replay_laws.specs.Log.{Log, HasLimits}
use Rattle.replay_laws.specs.RunLog.{end_of_thread}
use Rattle.replay_laws.specs.Gates.{is_open}
use Rattle.replay_laws.specs.Turns.{pick_of, input_for, can_give, same_end, turn_by_step, turn_by_entry, turn_by_next, turn_by_end, turn_by_thread, turn_of, world_after_turn}
use Rattle.replay_gate.specs.Local.{is_local, steps_left_of, HasStepsLeft}
use Rattle.replay_gate.specs.Leads.{Leads}
use Rattle.std.proofs.lemmas.Option.{same_Some}
use Rattle.replay_gate.proofs.Refusing.{turn_merely}

pub local_is : (x : Turn) → is_local x ≡ true → x ≡ turn.Local
local_is turn.Done h = absurd cc
local_is turn.Local h = refl
local_is (turn.Event input) h = absurd cc
local_is (turn.Refused r) h = absurd cc

-- ---- a turn by an entry is not local

step_not : {Op : Type 0} (i : Input) (s : PickStep Op) → is_local (turn_by_step i s) ≡ false
step_not i (step.Refused f) = refl
step_not i step.Local = refl
step_not i (step.Event op) = refl

item_not : {Op : Type 0} (a b : Bool) (i : Input) (s : PickStep Op) → is_local (cond a (cond b (turn_by_step i s) (turn.Refused Shut)) (turn.Refused Diverged)) ≡ false
item_not true true i s = step_not i s
item_not true false i s = refl
item_not false b i s = refl

place_not : (b : Bool) (x : Turn) → is_local x ≡ false → is_local (cond b x (turn.Refused Diverged)) ≡ false
place_not true x n = n
place_not false x n = refl

same_end_not : (b : Bool) → is_local (cond b turn.Done (turn.Refused Diverged)) ≡ false
same_end_not true = refl
same_end_not false = refl

abbrev is_local_next : {Op : Type 0} → Next Op → Bool
is_local_next next.Local = true
is_local_next (next.Ask op) = false
is_local_next (next.Asleep resume out) = false
is_local_next (next.Halted outcome) = false

next_is : {Op : Type 0} (n : Next Op) → is_local_next n ≡ true → n ≡ next.Local
next_is next.Local h = refl
next_is (next.Ask op) h = absurd cc
next_is (next.Asleep resume out) h = absurd cc
next_is (next.Halted outcome) h = absurd cc

module _ {State Op Reply Value Fixed : Type 0} (space : Space Op Reply Value Fixed) (code : Code State Op Reply Fixed) (log : Log) (w : WorldAt State Value Fixed) (t : ℕ) where
  entry_not : (n : Next Op) (o : Option (Flat Entry)) → is_local (turn_by_entry space code w t n o) ≡ false
  entry_not n None = refl
  entry_not n (Some flat.Clash) = refl
  entry_not n (Some (flat.Known item)) =
      item_not (can_give space n item) (is_open item.found w.memory.counts) (input_for item.kind) (step_of_pick space code w (pick_of t (input_for item.kind)))

  by_next : (place places : ℕ) (n : Next Op) → is_local (turn_by_next space code log w t place places n) ≡ is_local_next n
  by_next place places next.Local = refl
  by_next place places (next.Ask op) = place_not (nat_lt place places) _ (entry_not (next.Ask op) (log.entry t place))
  by_next place places (next.Asleep resume out) = place_not (nat_lt place places) _ (entry_not (next.Asleep resume out) (log.entry t place))
  by_next place places (next.Halted outcome) = refl

  -- a thread whose next step is local, with steps left to its logged end
  pub record StandsLocally : Type 0 where
    pub thread : ThreadAt State
    pub exists : slice_get w.threads t ≡ Some thread
    pub end : End
    pub is_known : log.end t ≡ Some (flat.Known end)
    pub below : code.steps thread.state < end.steps
    pub next : code.next thread.state ≡ next.Local

  -- its turn is local
  pub turns_locally : StandsLocally → turn_of space code log w t ≡ turn.Local
  turns_locally s =
      ap (turn_by_thread space code log w t) s.exists
      ∙ ap (turn_by_end space code log w t s.thread) s.is_known
      ∙ ap (λ b. cond b (turn_by_next space code log w t s.thread.places s.end.places (code.next s.thread.state)) (cond (same_end s.end (end_of_thread code s.thread)) turn.Done (turn.Refused Diverged))) (lt-ltb _ _ s.below)
      ∙ ap (turn_by_next space code log w t s.thread.places s.end.places) s.next

  from_test : (th : ThreadAt State) (e : End) (b : Bool) → slice_get w.threads t ≡ Some th → log.end t ≡ Some (flat.Known e) → nat_lt (code.steps th.state) e.steps ≡ b
      → cond b (turn_by_next space code log w t th.places e.places (code.next th.state)) (cond (same_end e (end_of_thread code th)) turn.Done (turn.Refused Diverged)) ≡ turn.Local → StandsLocally
  from_test th e true is ends q h = record {
    thread = th;
    exists = is;
    end = e;
    is_known = ends;
    below = ltb-true _ _ q;
    next = next_is (code.next th.state) (sym (by_next th.places e.places (code.next th.state)) ∙ ap is_local h);
  }
  from_test th e false is ends q h = absurd (let n = same_end_not (same_end e (end_of_thread code th)) in let l = ap is_local h in cc)

  from_end : (th : ThreadAt State) (o : Option (Flat End)) → slice_get w.threads t ≡ Some th → log.end t ≡ o → turn_by_end space code log w t th o ≡ turn.Local → StandsLocally
  from_end th None is ends h = absurd cc
  from_end th (Some flat.Clash) is ends h = absurd cc
  from_end th (Some (flat.Known e)) is ends h = from_test th e (nat_lt (code.steps th.state) e.steps) is ends refl h

  from_thread : (o : Option (ThreadAt State)) → slice_get w.threads t ≡ o → turn_by_thread space code log w t o ≡ turn.Local → StandsLocally
  from_thread None is h = absurd cc
  from_thread (Some th) is h = from_end th (log.end t) is refl h

  -- where its turn is local, it stands so
  pub stands_locally : turn_of space code log w t ≡ turn.Local → StandsLocally
  stands_locally h = from_thread (slice_get w.threads t) refl h

  -- and its step is
  pub steps_locally : HasLimits log → turn_of space code log w t ≡ turn.Local → step_of_pick space code w (pick_of t Go) ≡ step.Local
  steps_locally limits h =
      let s = stands_locally h in
      let few : code.steps s.thread.state < 1000000000 = let l = limits t s.end s.is_known in let b = s.below in omega (arith, l, b) in
      step_some space code w (pick_of t Go) s.thread s.exists few ∙ ap (λ x. step_of_next space w.memory x Go) s.next

  pub left_by_step : (v : WorldAt State Value Fixed) → step_of_pick space code w (pick_of t Go) ≡ step.Local → v ≡ world_after_step space code w t step.Local → v ≡ world_after_turn space code w t turn.Local
  left_by_step v h is = is ∙ ap (world_after_step space code w t) (sym h)

  pub left_by_turn : (v : WorldAt State Value Fixed) → HasLimits log → turn_of space code log w t ≡ turn.Local → v ≡ world_after_step space code w t step.Local → v ≡ world_after_turn space code w t (turn_of space code log w t)
  left_by_turn v limits h is = left_by_step v (steps_locally limits h) is ∙ ap (world_after_turn space code w t) (sym h)

  -- ---- steps are left

  pub record IsLeft : Type 0 where
    pub thread : ThreadAt State
    pub exists : slice_get w.threads t ≡ Some thread
    pub end : End
    pub is_known : log.end t ≡ Some (flat.Known end)
    pub below : code.steps thread.state < end.steps

  is_left : (o : Option (Flat End)) (x : Option (ThreadAt State)) → log.end t ≡ o → slice_get w.threads t ≡ x → 0 < steps_left_of code o x → IsLeft
  is_left None x ends is h = absurd (omega (arith, h))
  is_left (Some flat.Clash) x ends is h = absurd (omega (arith, h))
  is_left (Some (flat.Known e)) None ends is h = absurd (omega (arith, h))
  is_left (Some (flat.Known e)) (Some th) ends is h = record { thread = th; exists = is; end = e; is_known = ends; below = omega (arith, h) }

  pub left_of : HasStepsLeft code log w t → IsLeft
  left_of left = is_left (log.end t) (slice_get w.threads t) refl refl left

  -- a local step is then the turn
  pub is_turn : HasStepsLeft code log w t → step_of_pick space code w (pick_of t Go) ≡ step.Local → true ≡ is_local (turn_of space code log w t)
  is_turn left h =
      let l = is_left (log.end t) (slice_get w.threads t) refl refl left in
      let k = thread_local space code w.memory (slice_get w.threads t) Go h in
      let same : k.0 ≡ l.thread = same_Some _ _ (sym k.1 ∙ l.exists) in
      let n : code.next l.thread.state ≡ next.Local = subst (λ (x : ThreadAt State). code.next x.state ≡ next.Local) same k.2.next in
      sym (ap is_local (turns_locally (record { thread = l.thread; exists = l.exists; end = l.end; is_known = l.is_known; below = l.below; next = n })))

  not_so : HasLimits log → (step_of_pick space code w (pick_of t Go) ≡ step.Local → ⊥) → (x : Turn) → turn_of space code log w t ≡ x → false ≡ is_local x
  not_so limits n turn.Done is = refl
  not_so limits n turn.Local is = absurd (n (steps_locally limits is))
  not_so limits n (turn.Event input) is = refl
  not_so limits n (turn.Refused r) is = refl

  pub is_no_turn : HasLimits log → (step_of_pick space code w (pick_of t Go) ≡ step.Local → ⊥) → false ≡ is_local (turn_of space code log w t)
  is_no_turn limits n = not_so limits n (turn_of space code log w t) refl

-- ---- where a local turn leads

module _ {State Op Reply Value Fixed : Type 0} (space : Space Op Reply Value Fixed) (code : Code State Op Reply Fixed) (laws : SpaceLaws space) (rules : CodeLaws space code) (log : Log) (limits : HasLimits log)
    (opened w v : WorldAt State Value Fixed) (leads : ∥ Leads space code log opened w ∥₁) where
  same_merely : v ≡ w → ∥ Leads space code log opened v ∥₁
  same_merely is = subst (λ x. ∥ Leads space code log opened x ∥₁) (sym is) leads

  pub local_merely : {E : Type 0} (t : ℕ) (r : Result Bool E) → IfOk r (λ made. made ≡ is_local (turn_of space code log w t)) → IfOk r (λ made. v ≡ cond made (world_after_turn space code w t turn.Local) w) → OnErr r (v ≡ w)
      → ∥ Leads space code log opened v ∥₁
  local_merely t (Ok true) made is err =
      turn_merely space code laws rules log limits opened w v t leads (is ∙ ap (world_after_turn space code w t) (sym (local_is (turn_of space code log w t) (sym made))))
  local_merely t (Ok false) made is err = same_merely is
  local_merely t (Err e) made is err = same_merely err
