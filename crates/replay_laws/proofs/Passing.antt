-- A turn makes a step exactly where the log lets that step pass.
use Rattle.std.proofs.Common.{◌≡◌, ℕ, ◌<◌, Bool, true, false, cond, nat_lt, Option, Some, None, slice_get, refl, sym, ap, ◌∙◌, subst, arith}
use Rattle.std.proofs.lemmas.Bool.{ltb-true, lt-ltb}
use Rattle.rw_objects.specs.declared.entry.Kind.{Kind}
use Rattle.rw_objects.specs.declared.entry.Kind.TheVariants.{Access, Woken, TimedOut}
use Rattle.rw_objects.specs.declared.entry.Entry.{Entry}
use Rattle.rw_objects.specs.declared.next.Next.{Next}
use Rattle.rw_objects.specs.declared.next.Next.TheVariants as next
use Rattle.rw_objects.specs.Space.{Space}
use Rattle.rw_objects.specs.Code.{Code, CodeLaws, NextKinds}
use Rattle.rw_objects.specs.Memory.{Memory}
use Rattle.event_core.specs.declared.pick.Input.{Input}
use Rattle.event_core.specs.declared.pick.Input.TheVariants.{Go, TimeOut}
use Rattle.event_core.specs.declared.step.StepFault.{StepFault}
use Rattle.event_core.specs.declared.step.PickStep.{PickStep}
use Rattle.event_core.specs.declared.step.PickStep.TheVariants as step
use Rattle.event_core.specs.Threads.{ThreadAt}
use Rattle.event_core.specs.PickStep.{step_of_next}
use Rattle.event_core.specs.World.{WorldAt, step_of_pick}
use Rattle.event_core.proofs.Threads.{step_some}
use Rattle.event_core.proofs.Steps.{next_local}
use Rattle.log_pieces.specs.declared.end.End.{End}
use Rattle.log_pieces.specs.declared.flat.Flat.{Flat}
use Rattle.log_pieces.specs.declared.flat.Flat.TheVariants as flat
use Rattle.replay_laws.specs.declared.turn.Turn.{Turn}
use Rattle.replay_laws.specs.declared.turn.Turn.TheVariants as turn
use Rattle.replay_laws.specs.declared.turn.Refusal.{Refusal}
use Rattle.replay_laws.specs.declared.turn.Refusal.TheVariants.{Shut, Diverged}
use Rattle.replay_laws.specs.Log.{Log, HasLimits}
use Rattle.replay_laws.specs.RunLog.{end_of_thread}
use Rattle.replay_laws.specs.Gates.{is_open, are_of, MeetsLog, MeetsEntry, LetsPass}
use Rattle.replay_laws.specs.Turns.{pick_of, input_for, op_for, op_gives, can_give, same_end, turn_by_step, turn_by_item, turn_by_entry, turn_by_place, turn_by_next, turn_by_end, turn_by_thread, turn_of, input_of_turn}

same_op : {Op : Type 0} (b : Bool) (op done : Op) (f : StepFault) → cond b (step.Event op) (step.Refused f) ≡ step.Event done → op ≡ done
same_op true op done f h = cc
same_op false op done f h = absurd (cc)

-- where a test made a turn that makes a step
passed_test : (b : Bool) (x : Turn) (r : Refusal) (i : Input) → input_of_turn (cond b x (turn.Refused r)) ≡ Some i → (b ≡ true) × (input_of_turn x ≡ Some i)
passed_test true x r i h = (refl, h)
passed_test false x r i h = absurd (cc)

no_step : (b : Bool) (r : Refusal) (i : Input) → input_of_turn (cond b turn.Done (turn.Refused r)) ≡ Some i → ⊥
no_step true r i h = cc
no_step false r i h = cc

steps_left : (b : Bool) (x y : Turn) (i : Input) → (input_of_turn y ≡ Some i → ⊥) → input_of_turn (cond b x y) ≡ Some i → (b ≡ true) × (input_of_turn x ≡ Some i)
steps_left true x y i never h = (refl, h)
steps_left false x y i never h = absurd (never h)

event_made : {Op : Type 0} (input i : Input) (j : PickStep Op) → input_of_turn (turn_by_step input j) ≡ Some i → (op : Op) × (j ≡ step.Event op) × (input ≡ i)
event_made input i (step.Refused f) h = absurd (cc)
event_made input i step.Local h = absurd (cc)
event_made input i (step.Event op) h = (op, refl, cc)

module _ {Op Reply Value Fixed : Type 0} (space : Space Op Reply Value Fixed) where
  -- the operation of the step is the one that the entry speaks of
  op_is : (m : Memory Value Fixed) (n : Next Op) (kind : Kind) (o op : Op) → NextKinds space n → op_for n kind ≡ Some o → step_of_next space m n (input_for kind) ≡ step.Event op → (o ≡ op) × (space.kind op ≡ kind)
  op_is m next.Local kind o op k e h = absurd (cc)
  op_is m (next.Halted outcome) kind o op k e h = absurd (cc)
  op_is m (next.Ask asked) Access o op k e h = let a : asked ≡ o = cc in let b : asked ≡ op = cc in (sym a ∙ b, ap space.kind (sym b) ∙ k)
  op_is m (next.Ask asked) Woken o op k e h = absurd (cc)
  op_is m (next.Ask asked) TimedOut o op k e h = absurd (cc)
  op_is m (next.Asleep resume out) Access o op k e h = absurd (cc)
  op_is m (next.Asleep resume None) Woken o op k e h = let a : resume ≡ o = cc in let b = same_op _ resume op _ h in (sym a ∙ b, ap space.kind (sym b) ∙ k)
  op_is m (next.Asleep resume (Some out)) Woken o op k e h = let a : resume ≡ o = cc in let b = same_op _ resume op _ h in (sym a ∙ b, ap space.kind (sym b) ∙ k.0)
  op_is m (next.Asleep resume None) TimedOut o op k e h = absurd (cc)
  op_is m (next.Asleep resume (Some out)) TimedOut o op k e h = let a : out ≡ o = cc in let b = same_op _ out op _ h in (sym a ∙ b, ap space.kind (sym b) ∙ k.1)

  given : (o : Option Op) (item : Entry) → op_gives space o item.found ≡ true → (op : Op) × (o ≡ Some op) × (are_of (space.touches op) item.found ≡ true)
  given None item h = absurd (cc)
  given (Some op) item h = (op, refl, h)

  -- the kind of an event's operation says by which input it is made
  kind_is : (kind : Kind) (n : Next Op) (input : Input) (op : Op) → space.kind op ≡ kind → (op_for n (space.kind op) ≡ Some op) × (input_for (space.kind op) ≡ input) → (op_for n kind ≡ Some op) × (input_for kind ≡ input)
  kind_is kind n input op e h = subst (λ k. (op_for n k ≡ Some op) × (input_for k ≡ input)) e h

  access_is : (asked op : Op) → space.kind asked ≡ Access → asked ≡ op → (op_for (next.Ask asked) (space.kind op) ≡ Some op) × (input_for (space.kind op) ≡ Go)
  access_is asked op k e =
      let is : Access ≡ space.kind op = sym k ∙ ap space.kind e in
      subst (λ x. (op_for (next.Ask asked) x ≡ Some op) × (input_for x ≡ Go)) is (ap Some e, refl)

  woken_is : (resume op : Op) (out : Option Op) → space.kind resume ≡ Woken → resume ≡ op → (op_for (next.Asleep resume out) (space.kind op) ≡ Some op) × (input_for (space.kind op) ≡ Go)
  woken_is resume op out k e =
      let is : Woken ≡ space.kind op = sym k ∙ ap space.kind e in
      subst (λ x. (op_for (next.Asleep resume out) x ≡ Some op) × (input_for x ≡ Go)) is (ap Some e, refl)

  timed_out_is : (resume out op : Op) → space.kind out ≡ TimedOut → out ≡ op → (op_for (next.Asleep resume (Some out)) (space.kind op) ≡ Some op) × (input_for (space.kind op) ≡ TimeOut)
  timed_out_is resume out op k e =
      let is : TimedOut ≡ space.kind op = sym k ∙ ap space.kind e in
      subst (λ x. (op_for (next.Asleep resume (Some out)) x ≡ Some op) × (input_for x ≡ TimeOut)) is (ap Some e, refl)

  of_event : (m : Memory Value Fixed) (n : Next Op) (input : Input) (op : Op) → NextKinds space n → step_of_next space m n input ≡ step.Event op → (op_for n (space.kind op) ≡ Some op) × (input_for (space.kind op) ≡ input)
  of_event m next.Local Go op k h = absurd (cc)
  of_event m next.Local TimeOut op k h = absurd (cc)
  of_event m (next.Halted outcome) input op k h = absurd (cc)
  of_event m (next.Ask asked) Go op k h = access_is asked op k (cc)
  of_event m (next.Ask asked) TimeOut op k h = absurd (cc)
  of_event m (next.Asleep resume None) Go op k h = woken_is resume op None k (same_op _ resume op _ h)
  of_event m (next.Asleep resume (Some out)) Go op k h = woken_is resume op (Some out) k.0 (same_op _ resume op _ h)
  of_event m (next.Asleep resume None) TimeOut op k h = absurd (cc)
  of_event m (next.Asleep resume (Some out)) TimeOut op k h = timed_out_is resume out op k.1 (same_op _ out op _ h)

  local_goes : (m : Memory Value Fixed) (n : Next Op) (input : Input) → step_of_next space m n input ≡ step.Local → (n ≡ next.Local) × (input ≡ Go)
  local_goes m n Go h = (next_local space m n Go h, refl)
  local_goes m n TimeOut h = let e = next_local space m n TimeOut h in absurd (let z : step_of_next space m next.Local TimeOut ≡ step.Local = ap (λ k. step_of_next space m k TimeOut) (sym e) ∙ h in cc)

module _ {State Op Reply Value Fixed : Type 0} (space : Space Op Reply Value Fixed) (code : Code State Op Reply Fixed) (rules : CodeLaws space code) (log : Log) (limits : HasLimits log) (w : WorldAt State Value Fixed) (t : ℕ) (i : Input) where
  module _ (thread : ThreadAt State) (is : slice_get w.threads t ≡ Some thread) (e : End) (ends : log.end t ≡ Some (flat.Known e)) (below : code.steps thread.state < e.steps) where
    able : code.steps thread.state < 1000000000
    able = omega (arith, below, limits t e ends)

    by_next : (j : Input) → step_of_pick space code w (pick_of t j) ≡ step_of_next space w.memory (code.next thread.state) j
    by_next j = step_some space code w (pick_of t j) thread is able

    lets : MeetsLog space (log.entry t thread.places) thread.places e.places w.memory (step_of_pick space code w (pick_of t i)) → LetsPass space code log w (pick_of t i)
    lets m = record { thread = thread; exists = is; end = e; is_known = ends; below = below; meets = m }

    by_local : code.next thread.state ≡ next.Local → i ≡ Go → LetsPass space code log w (pick_of t i)
    by_local n g = lets (subst (MeetsLog space (log.entry t thread.places) thread.places e.places w.memory) (sym (by_next i ∙ ap (λ k. step_of_next space w.memory k i) n ∙ ap (step_of_next space w.memory next.Local) g)) tt)

    of_item : thread.places < e.places → (item : Entry) → log.entry t thread.places ≡ Some (flat.Known item) → input_of_turn (turn_by_item space code w t (code.next thread.state) item) ≡ Some i → LetsPass space code log w (pick_of t i)
    of_item l item k h =
        let a = passed_test _ _ _ i h in
        let b = passed_test _ _ _ i a.1 in
        let c = event_made (input_for item.kind) i (step_of_pick space code w (pick_of t (input_for item.kind))) b.1 in
        let g = given space (op_for (code.next thread.state) item.kind) item a.0 in
        let j = sym (by_next (input_for item.kind)) ∙ c.1 in
        let o = op_is space w.memory (code.next thread.state) item.kind g.0 c.0 (rules.kinds thread.state) g.1 j in
        lets (subst (MeetsLog space (log.entry t thread.places) thread.places e.places w.memory) (sym (ap (λ x. step_of_pick space code w (pick_of t x)) (sym c.2) ∙ c.1))
        (l, record { item = item; is_known = k; opens = b.0; same_kind = o.1; same_touches = ap (λ x. are_of (space.touches x) item.found) (sym o.0) ∙ g.2 }))

    of_entry : thread.places < e.places → (x : Option (Flat Entry)) → log.entry t thread.places ≡ x → input_of_turn (turn_by_entry space code w t (code.next thread.state) x) ≡ Some i → LetsPass space code log w (pick_of t i)
    of_entry l None k h = absurd (cc)
    of_entry l (Some (flat.Known item)) k h = of_item l item k h
    of_entry l (Some flat.Clash) k h = absurd (cc)

    of_place : input_of_turn (turn_by_place space code log w t (code.next thread.state) thread.places e.places) ≡ Some i → LetsPass space code log w (pick_of t i)
    of_place h = let a = passed_test _ _ _ i h in of_entry (ltb-true _ _ a.0) (log.entry t thread.places) refl a.1

    of_next : (n : Next Op) → code.next thread.state ≡ n → input_of_turn (turn_by_next space code log w t thread.places e.places n) ≡ Some i → LetsPass space code log w (pick_of t i)
    of_next next.Local q h = by_local q (cc)
    of_next (next.Ask op) q h = of_place (ap (λ n. input_of_turn (turn_by_place space code log w t n thread.places e.places)) q ∙ h)
    of_next (next.Asleep resume out) q h = of_place (ap (λ n. input_of_turn (turn_by_place space code log w t n thread.places e.places)) q ∙ h)
    of_next (next.Halted outcome) q h = absurd (cc)

    -- and back: the turn of a step that the log lets pass
    gives_op : (o : Option Op) (op : Op) (item : Entry) → o ≡ Some op → are_of (space.touches op) item.found ≡ true → op_gives space o item.found ≡ true
    gives_op o op item q h = ap (λ x. op_gives space x item.found) q ∙ h

    at_item : (item : Entry) (op : Op) (b c : Bool) (j : Input) → can_give space (code.next thread.state) item ≡ b → b ≡ true → is_open item.found w.memory.counts ≡ c → c ≡ true → input_for item.kind ≡ j → step_of_pick space code w (pick_of t j) ≡ step.Event op
        → input_of_turn (cond b (cond c (turn_by_step (input_for item.kind) (step_of_pick space code w (pick_of t (input_for item.kind)))) (turn.Refused Shut)) (turn.Refused Diverged)) ≡ Some j
    at_item item op false c j g b o d q s = absurd (cc)
    at_item item op true false j g b o d q s = absurd (cc)
    at_item item op true true j g b o d q s =
        subst (λ k. input_of_turn (turn_by_step k (step_of_pick space code w (pick_of t k))) ≡ Some j) (sym q) (ap (λ x. input_of_turn (turn_by_step j x)) s)

    turn_at : (x : Option (Flat Entry)) (op : Op) → log.entry t thread.places ≡ x → step_of_pick space code w (pick_of t i) ≡ step.Event op → MeetsEntry space x w.memory op → input_of_turn (turn_by_entry space code w t (code.next thread.state) x) ≡ Some i
    turn_at None op k s m = absurd (let z = m.is_known in cc)
    turn_at (Some flat.Clash) op k s m = absurd (let z = m.is_known in cc)
    turn_at (Some (flat.Known item)) op k s m =
        let same : item ≡ m.item = let z = m.is_known in cc in
        let kinds = kind_is space item.kind (code.next thread.state) i op (m.same_kind ∙ ap (λ y. y.kind) (sym same)) (of_event space w.memory (code.next thread.state) i op (rules.kinds thread.state) (sym (by_next i) ∙ s)) in
        at_item item op (can_give space (code.next thread.state) item) (is_open item.found w.memory.counts) i
        refl (gives_op (op_for (code.next thread.state) item.kind) op item kinds.0 (ap (λ y. are_of (space.touches op) y.found) same ∙ m.same_touches))
        refl (ap (λ y. is_open y.found w.memory.counts) same ∙ m.opens) kinds.1 s

    turn_place : (n : Next Op) (b : Bool) → code.next thread.state ≡ n → nat_lt thread.places e.places ≡ b → thread.places < e.places → (op : Op) → step_of_pick space code w (pick_of t i) ≡ step.Event op → MeetsEntry space (log.entry t thread.places) w.memory op
        → input_of_turn (cond b (turn_by_entry space code w t n (log.entry t thread.places)) (turn.Refused Diverged)) ≡ Some i
    turn_place n true q l less op s m = subst (λ k. input_of_turn (turn_by_entry space code w t k (log.entry t thread.places)) ≡ Some i) q (turn_at (log.entry t thread.places) op refl s m)
    turn_place n false q l less op s m = absurd (let z : true ≡ false = sym (lt-ltb _ _ less) ∙ l in cc)

    turn_event : (n : Next Op) → code.next thread.state ≡ n → (op : Op) → step_of_pick space code w (pick_of t i) ≡ step.Event op → (thread.places < e.places) × MeetsEntry space (log.entry t thread.places) w.memory op
        → input_of_turn (turn_by_next space code log w t thread.places e.places n) ≡ Some i
    turn_event next.Local q op s m = absurd (no_op i (ap (λ k. step_of_next space w.memory k i) (sym q) ∙ sym (by_next i) ∙ s))
      where
        no_op : (j : Input) → step_of_next space w.memory next.Local j ≡ step.Event op → ⊥
        no_op Go h = cc
        no_op TimeOut h = cc
    turn_event (next.Ask asked) q op s m = turn_place (next.Ask asked) (nat_lt thread.places e.places) q refl m.0 op s m.1
    turn_event (next.Asleep resume out) q op s m = turn_place (next.Asleep resume out) (nat_lt thread.places e.places) q refl m.0 op s m.1
    turn_event (next.Halted outcome) q op s m = absurd (let z : step_of_next space w.memory (next.Halted outcome) i ≡ step.Event op = ap (λ k. step_of_next space w.memory k i) (sym q) ∙ sym (by_next i) ∙ s in cc)

    turn_meets : (j : PickStep Op) → step_of_pick space code w (pick_of t i) ≡ j → MeetsLog space (log.entry t thread.places) thread.places e.places w.memory j
        → input_of_turn (turn_by_next space code log w t thread.places e.places (code.next thread.state)) ≡ Some i
    turn_meets (step.Refused f) s m = absurd m
    turn_meets step.Local s m =
        let g = local_goes space w.memory (code.next thread.state) i (sym (by_next i) ∙ s) in
        ap (λ n. input_of_turn (turn_by_next space code log w t thread.places e.places n)) g.0 ∙ ap Some (sym g.1)
    turn_meets (step.Event op) s m = turn_event (code.next thread.state) refl op s m

    turn_end : (b : Bool) → nat_lt (code.steps thread.state) e.steps ≡ b → MeetsLog space (log.entry t thread.places) thread.places e.places w.memory (step_of_pick space code w (pick_of t i))
        → input_of_turn (cond b (turn_by_next space code log w t thread.places e.places (code.next thread.state)) (cond (same_end e (end_of_thread code thread)) turn.Done (turn.Refused Diverged))) ≡ Some i
    turn_end true l m = turn_meets (step_of_pick space code w (pick_of t i)) refl m
    turn_end false l m = absurd (let z : true ≡ false = sym (lt-ltb _ _ below) ∙ l in cc)

  of_end : (thread : ThreadAt State) → slice_get w.threads t ≡ Some thread → (x : Option (Flat End)) → log.end t ≡ x → input_of_turn (turn_by_end space code log w t thread x) ≡ Some i → LetsPass space code log w (pick_of t i)
  of_end thread is None k h = absurd (cc)
  of_end thread is (Some (flat.Known e)) k h =
      let a = steps_left _ _ _ i (no_step (same_end e (end_of_thread code thread)) _ i) h in
      of_next thread is e k (ltb-true _ _ a.0) (code.next thread.state) refl a.1
  of_end thread is (Some flat.Clash) k h = absurd (cc)

  of_thread : (x : Option (ThreadAt State)) → slice_get w.threads t ≡ x → input_of_turn (turn_by_thread space code log w t x) ≡ Some i → LetsPass space code log w (pick_of t i)
  of_thread None is h = absurd (cc)
  of_thread (Some thread) is h = of_end thread is (log.end t) refl h

  -- a turn that makes a step makes one that the log lets pass
  pub turn_passes : input_of_turn (turn_of space code log w t) ≡ Some i → LetsPass space code log w (pick_of t i)
  turn_passes h = of_thread (slice_get w.threads t) refl h

  -- a step that the log lets pass is its thread's turn
  pub passing_turn : LetsPass space code log w (pick_of t i) → input_of_turn (turn_of space code log w t) ≡ Some i
  passing_turn l =
      ap (λ o. input_of_turn (turn_by_thread space code log w t o)) l.exists
      ∙ ap (λ x. input_of_turn (turn_by_end space code log w t l.thread x)) l.is_known
      ∙ turn_end l.thread l.exists l.end l.is_known l.below (nat_lt (code.steps l.thread.state) l.end.steps) refl l.meets
