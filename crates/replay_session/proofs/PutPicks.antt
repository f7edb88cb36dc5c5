-- Picks of the steps of a way.
use Rattle.std.proofs.Common.{◌≡◌, ℕ, ◌+◌, ◌<◌, ◌≤◌, true, false, List, [], ◌++◌, length, get_or, drop, Option, Some, None, slice_get, nat_lt, Bool, cond, refl, sym, ap, ◌∙◌, subst, arith, append_assoc}
use Rattle.std.specs.Prelude.{option_map, unwrap_or, nat_le, ◌&&◌}
use Rattle.std.proofs.Math.Logic.{∥∥₁_map}
use Rattle.std.proofs.lemmas.Bool.{le-leb}
use Rattle.std.proofs.lemmas.List.{append-nil, drop_more, length-append}
use Rattle.std.proofs.lemmas.List.Folds.{list_all-append}
use Rattle.std.proofs.lemmas.List.Sums.{sum_by-cons}
use Rattle.std.proofs.lemmas.Option.{slice_get_within}
use Rattle.rw_objects.specs.declared.entry.Entry.{Entry}
use Rattle.rw_objects.specs.declared.next.Next.{Next}
use Rattle.rw_objects.specs.declared.next.Next.TheVariants as next
use Rattle.rw_objects.specs.Space.{Space, SpaceLaws}
use Rattle.rw_objects.specs.Code.{Code, CodeLaws}
use Rattle.event_core.specs.declared.pick.Pick.{Pick}
use Rattle.event_core.specs.declared.pick.Input.{Input}
use Rattle.event_core.specs.declared.pick.Input.TheVariants.{Go}
use Rattle.event_core.specs.declared.step.PickStep.{PickStep}
use Rattle.event_core.specs.declared.step.PickStep.TheVariants as step
use Rattle.event_core.specs.Run.{world_run}
use Rattle.event_core.specs.Threads.{ThreadAt}
use Rattle.event_core.specs.World.{WorldAt, step_of_pick}
use Rattle.log_pieces.specs.declared.end.End.{End}
use Rattle.log_pieces.specs.declared.flat.Flat.{Flat}
use Rattle.log_pieces.specs.declared.flat.Flat.TheVariants as flat
use Rattle.pick_schedule.specs.Printing.{are_of_threads, AreOfThreads}
use Rattle.replay_laws.specs.declared.turn.Turn.{Turn}
use Rattle.replay_laws.specs.declared.turn.Turn.TheVariants as turn
use Rattle.replay_laws.specs.declared.turn.Refusal.{Refusal}
use Rattle.replay_laws.specs.declared.turn.Refusal.TheVariants.{Diverged}
use Rattle.replay_laws.specs.RunLog.{end_of_thread}
use Rattle.replay_laws.specs.Gates.{is_open, IsGatedRun}
use Rattle.replay_laws.specs.Log.{Log, HasLimits}
use Rattle.replay_laws.specs.Ordered.{pick_made}
use Rattle.replay_laws.specs.Turns.{input_for, input_of_turn, pick_of, can_give, same_end, turn_of, turn_by_step, turn_by_item, turn_by_entry, turn_by_place, turn_by_next, turn_by_end, turn_by_thread, world_after_turn}
use Rattle.replay_laws.proofs.Orders.{gated_joined, made_gated, turn_leaves, world_joined}
use Rattle.replay_gate.specs.Answers.{makes_step}
use Rattle.replay_gate.proofs.Rounds.{turned_length}
use Rattle.replay_gate.specs.Turned.{answer_of_turn}
use Rattle.replay_gate.specs.declared.answers.Turned.TheVariants as turned
use Rattle.replay_session.specs.Gone.{steps_of_turn, TurnPasses}
use Rattle.replay_session.specs.Legs.{steps_of_leg, steps_of_way}
use Rattle.replay_session.specs.declared.legs.Leg.{Leg}
use Rattle.replay_session.specs.declared.legs.Leg.TheVariants as leg
use Rattle.replay_session.specs.Picks.{PicksLead, ArePut, input_by}
use Rattle.replay_session.specs.Ways.{WayLeads}
use Rattle.replay_session.proofs.Ways.{ways_lead_once}
use Rattle.replay_session.proofs.RoundTurns.{few_of_turn}

pub picks_count : (t : ℕ) (x : Turn) → length (pick_made t (input_of_turn x)) ≡ steps_of_turn x
picks_count t turn.Done = refl
picks_count t turn.Local = refl
picks_count t (turn.Event input) = refl
picks_count t (turn.Refused r) = refl

of_thread : (t : ℕ) (x : Turn) → (makes_step x ≡ true → t < 16) → AreOfThreads (pick_made t (input_of_turn x))
of_thread t turn.Done h = refl
of_thread t turn.Local h = let l = h refl in simp (le-leb t 15 (omega (arith, l)))
of_thread t (turn.Event input) h = let l = h refl in simp (le-leb t 15 (omega (arith, l)))
of_thread t (turn.Refused r) h = refl

module _ {State Op Reply Value Fixed : Type 0} (space : Space Op Reply Value Fixed) (code : Code State Op Reply Fixed) where
  -- ---- what picks a thread for an event

  by_step : (i j : Input) (s : PickStep Op) → turn_by_step i s ≡ turn.Event j → i ≡ j
  by_step i j (step.Refused f) h = absurd cc
  by_step i j step.Local h = absurd cc
  by_step i j (step.Event op) h = ap event_input h
    where
      event_input : Turn → Input
      event_input turn.Done = Go
      event_input turn.Local = Go
      event_input (turn.Event input) = input
      event_input (turn.Refused r) = Go

  chosen : {A : Type 0} (b : Bool) (x y z : A) → cond b x y ≡ z → (y ≡ z → ⊥) → x ≡ z
  chosen true x y z h _ = h
  chosen false x y z h never = absurd (never h)

  by_item : (w : WorldAt State Value Fixed) (t : ℕ) (n : Next Op) (item : Entry) (j : Input) → turn_by_item space code w t n item ≡ turn.Event j → input_for item.kind ≡ j
  by_item w t n item j h =
      let given = chosen (can_give space n item) _ _ _ h (λ no. cc) in
      let opened = chosen (is_open item.found w.memory.counts) _ _ _ given (λ no. cc) in
      by_step (input_for item.kind) j (step_of_pick space code w (pick_of t (input_for item.kind))) opened

  by_entry : (w : WorldAt State Value Fixed) (t : ℕ) (n : Next Op) (item : Option (Flat Entry)) (j : Input) → turn_by_entry space code w t n item ≡ turn.Event j → input_by item ≡ j
  by_entry w t n None j h = absurd cc
  by_entry w t n (Some (flat.Known item)) j h = by_item w t n item j h
  by_entry w t n (Some flat.Clash) j h = absurd cc

  module _ (log : Log) where
    by_place : (w : WorldAt State Value Fixed) (t : ℕ) (n : Next Op) (place places : ℕ) (j : Input) → turn_by_place space code log w t n place places ≡ turn.Event j → input_by (log.entry t place) ≡ j
    by_place w t n place places j h = by_entry w t n (log.entry t place) j (chosen (nat_lt place places) _ _ _ h (λ no. cc))

    by_next : (w : WorldAt State Value Fixed) (t place places : ℕ) (n : Next Op) (j : Input) → turn_by_next space code log w t place places n ≡ turn.Event j → input_by (log.entry t place) ≡ j
    by_next w t place places next.Local j h = absurd cc
    by_next w t place places (next.Ask op) j h = by_place w t (next.Ask op) place places j h
    by_next w t place places (next.Asleep resume out) j h = by_place w t (next.Asleep resume out) place places j h
    by_next w t place places (next.Halted outcome) j h = absurd cc

    no_event : (b : Bool) (r : Refusal) (j : Input) → cond b turn.Done (turn.Refused r) ≡ turn.Event j → ⊥
    no_event true r j h = cc
    no_event false r j h = cc

    by_end : (w : WorldAt State Value Fixed) (t : ℕ) (thread : ThreadAt State) (end : Option (Flat End)) (j : Input) → turn_by_end space code log w t thread end ≡ turn.Event j → input_by (log.entry t thread.places) ≡ j
    by_end w t thread None j h = absurd cc
    by_end w t thread (Some (flat.Known end)) j h =
        by_next w t thread.places end.places (code.next thread.state) j
        (chosen (nat_lt (code.steps thread.state) end.steps) _ _ _ h (no_event (same_end end (end_of_thread code thread)) Diverged j))
    by_end w t thread (Some flat.Clash) j h = absurd cc

    by_thread : (w : WorldAt State Value Fixed) (t : ℕ) (o : Option (ThreadAt State)) (j : Input) → turn_by_thread space code log w t o ≡ turn.Event j → input_by (log.entry t (unwrap_or (option_map (λ x. x.places) o) 0)) ≡ j
    by_thread w t None j h = absurd cc
    by_thread w t (Some thread) j h = by_end w t thread (log.end t) j h

    -- the log has how a thread was picked for an event
    pub input_told : (w : WorldAt State Value Fixed) (t place : ℕ) → place ≡ unwrap_or (option_map (λ x. x.places) (slice_get w.threads t)) 0
        → answer_of_turn (turn_of space code log w t) ≡ Some turned.Event → Some (input_by (log.entry t place)) ≡ input_of_turn (turn_of space code log w t)
    input_told w t place is h = go (turn_of space code log w t) refl h
      where
        go : (x : Turn) → turn_of space code log w t ≡ x → answer_of_turn x ≡ Some turned.Event → Some (input_by (log.entry t place)) ≡ input_of_turn x
        go turn.Done e a = absurd cc
        go turn.Local e a = absurd cc
        go (turn.Event j) e a = ap Some (ap (λ p. input_by (log.entry t p)) is ∙ by_thread w t (slice_get w.threads t) j e)
        go (turn.Refused r) e a = absurd cc

    exists : (w : WorldAt State Value Fixed) (t : ℕ) (o : Option (ThreadAt State)) → makes_step (turn_by_thread space code log w t o) ≡ true → (x : ThreadAt State) × (o ≡ Some x)
    exists w t None h = absurd cc
    exists w t (Some x) h = (x, refl)

    -- only threads that there are make steps
    pub steps_within : (w : WorldAt State Value Fixed) (t : ℕ) → makes_step (turn_of space code log w t) ≡ true → t < length w.threads
    steps_within w t h = let e = exists w t (slice_get w.threads t) h in slice_get_within w.threads t e.0 e.1

  -- ---- picks behind others

  module _ (log : Log) where
    pub none_put : (ps : List Pick) (w : WorldAt State Value Fixed) → ArePut space code log 0 ps ps w w
    none_put ps w = record { picks = []; put = sym (append-nil ps); of_threads = refl; lead = record { count = refl; gated = tt; leads = refl } }

    pub put_joined : (m n : ℕ) (ps qs rs : List Pick) (w u v : WorldAt State Value Fixed) → ArePut space code log m ps qs w u → ArePut space code log n qs rs u v → ArePut space code log (m + n) ps rs w v
    put_joined m n ps qs rs w u v a b =
        let ca = a.lead.count in
        let cb = b.lead.count in
        let l = length-append a.picks b.picks in
        record {
          picks = a.picks ++ b.picks;
          put = b.put ∙ ap (λ xs. xs ++ b.picks) a.put ∙ append_assoc ps a.picks b.picks;
          of_threads = list_all-append (λ (q : Pick). nat_le q.thread 15) a.picks b.picks ∙ both _ _ a.of_threads b.of_threads;
          lead = record {
            count = omega (arith, l, ca, cb);
            gated = gated_joined space code log w a.picks b.picks a.lead.gated (subst (λ x. IsGatedRun space code log x b.picks) (sym a.lead.leads) b.lead.gated);
            leads = world_joined space code w a.picks b.picks ∙ ap (λ x. world_run space code x b.picks) a.lead.leads ∙ b.lead.leads;
          };
        }
      where
        both : (x y : Bool) → x ≡ true → y ≡ true → (x && y) ≡ true
        both true true h g = refl
        both true false h g = absurd cc
        both false y h g = absurd cc

    pub few_passed : (t k : ℕ) (u v : WorldAt State Value Fixed) → TurnPasses space code log t u v k → k ≤ 1
    few_passed t k u v h = let e = h.0 in let f = few_of_turn (turn_of space code log u t) in omega (arith, e, f)

    pub put_length : (n : ℕ) (ps qs : List Pick) (w v : WorldAt State Value Fixed) → ArePut space code log n ps qs w v → length qs ≡ length ps + n
    put_length n ps qs w v a =
        let e = ap (λ xs. length xs) a.put in
        let l = length-append ps a.picks in
        let c = a.lead.count in
        omega (arith, e, l, c)

    module _ (laws : SpaceLaws space) (rules : CodeLaws space code) (limits : HasLimits log) where
      -- those of a turn
      turn_put : (t k : ℕ) (ps qs : List Pick) (u v : WorldAt State Value Fixed) → length u.threads ≤ 16 → qs ≡ ps ++ pick_made t (input_of_turn (turn_of space code log u t)) → TurnPasses space code log t u v k → ArePut space code log k ps qs u v
      turn_put t k ps qs u v few is h =
          let x = turn_of space code log u t in
          record {
            picks = pick_made t (input_of_turn x);
            put = is;
            of_threads = of_thread t x (λ made. let l = steps_within log u t made in omega (arith, l, few));
            lead = record { count = picks_count t x ∙ sym h.0; gated = made_gated space code laws rules log limits u t (input_of_turn x) refl; leads = sym (turn_leaves space code u t x) ∙ sym h.1 };
          }

      turn_behind : (t m k : ℕ) (ps qs rs : List Pick) (w u v : WorldAt State Value Fixed) → length u.threads ≤ 16 → ArePut space code log m ps qs w u
          → rs ≡ qs ++ pick_made t (input_of_turn (turn_of space code log u t)) → TurnPasses space code log t u v k → ArePut space code log (m + k) ps rs w v
      turn_behind t m k ps qs rs w u v few a is h = put_joined m k ps qs rs w u v a (turn_put t k qs rs u v few is h)

      -- the same by what a turn answers
      pub turn_answered : (log' : Log) → log' ≡ log → (t m k : ℕ) (ps qs rs : List Pick) (w u v : WorldAt State Value Fixed) (input : Option Input) → length u.threads ≤ 16 → ArePut space code log m ps qs w u
          → input ≡ input_of_turn (turn_of space code log' u t) → v ≡ world_after_turn space code u t (turn_of space code log' u t) → rs ≡ qs ++ pick_made t input → k ≡ length (pick_made t input)
          → ArePut space code log (m + k) ps rs w v × TurnPasses space code log t u v k × (length v.threads ≤ 16)
      turn_answered log' same t m k ps qs rs w u v input few a told after is count =
          let x = turn_of space code log u t in
          let e = ap (λ l. turn_of space code l u t) same in
          let f = told ∙ ap input_of_turn e in
          let g = after ∙ ap (world_after_turn space code u t) e in
          let h : TurnPasses space code log t u v k = (count ∙ ap (λ i. length (pick_made t i)) f ∙ picks_count t x, g) in
          let l = ap (λ (y : WorldAt State Value Fixed). length y.threads) g ∙ turned_length space code u t x in
          (turn_behind t m k ps qs rs w u v few a (is ∙ ap (λ i. qs ++ pick_made t i) f) h, h, omega (arith, l, few))

    -- ---- leg by leg

    -- of a way with so many legs ahead, the picks of those behind were put behind none
    pub record ArePutBefore (legs ahead : List Leg) (picks : List Pick) (w u : WorldAt State Value Fixed) : Type 0 where
      pub steps : ℕ
      pub put : ArePut space code log steps [] picks w u
      pub all : steps + steps_of_way ahead ≡ steps_of_way legs

    pub put_before_all : (legs : List Leg) (w : WorldAt State Value Fixed) → ArePutBefore legs legs [] w w
    put_before_all legs w = record { steps = 0; put = none_put [] w; all = omega arith }

    module _ (legs : List Leg) (k : ℕ) (below : k < length legs) where
      abbrev here : Leg
      here = get_or legs k (leg.Thread 0 0)

      counted : steps_of_way (drop k legs) ≡ steps_of_leg here + steps_of_way (drop (k + 1) legs)
      counted = ap steps_of_way (drop_more legs k (leg.Thread 0 0) below) ∙ sum_by-cons steps_of_leg here (drop (k + 1) legs)

      pub room_here : (most : ℕ) (picks : List Pick) (w u : WorldAt State Value Fixed) → steps_of_way legs ≤ most → ArePutBefore legs (drop k legs) picks w u → length picks + steps_of_leg here ≤ most
      room_here most picks w u few a =
          let l = put_length a.steps [] picks w u a.put in
          let all = a.all in
          let c = counted in
          omega (arith, few, l, all, c)

      pub put_here : (log' : Log) → log' ≡ log → (ps qs : List Pick) (w u v : WorldAt State Value Fixed) → ArePutBefore legs (drop k legs) ps w u → ArePut space code log' (steps_of_leg here) ps qs u v → ArePutBefore legs (drop (k + 1) legs) qs w v
      put_here log' same ps qs w u v a b =
          let all = a.all in
          let c = counted in
          record { steps = a.steps + steps_of_leg here; put = put_joined a.steps (steps_of_leg here) [] ps qs w u v a.put (subst (λ l. ArePut space code l (steps_of_leg here) ps qs u v) same b); all = omega (arith, all, c) }

    pub all_put : (legs ahead : List Leg) (picks : List Pick) (w u : WorldAt State Value Fixed) → ahead ≡ [] → ArePutBefore legs ahead picks w u → ArePut space code log (steps_of_way legs) [] picks w u
    all_put legs ahead picks w u none a =
        let e = ap steps_of_way none in
        let all = a.all in
        subst (λ n. ArePut space code log n [] picks w u) (let z : a.steps ≡ steps_of_way legs = omega (arith, e, all) in z) a.put

  module _ (rules : CodeLaws space code) (log log' : Log) (same : log' ≡ log) (opened start w : WorldAt State Value Fixed) (begins : start ≡ opened) (legs legs' : List Leg) (all : legs' ≡ legs) (lead : ∥ WayLeads space code log legs opened w ∥₁) where
    leads_too : WayLeads space code log legs opened w → WayLeads space code log' legs' start w
    leads_too h = subst (λ l. WayLeads space code l legs' start w) (sym same) (subst (λ o. WayLeads space code log legs' o w) (sym begins) (subst (λ ls. WayLeads space code log ls opened w) (sym all) h))

    -- the same way leads somewhere, and to the same world
    pub leads_again : ∥ ((v : WorldAt State Value Fixed) × WayLeads space code log' legs' start v) ∥₁
    leads_again = ∥∥₁_map lead (λ h. (w, leads_too h))

    pub comes_there : (picks : List Pick) (v : WorldAt State Value Fixed) → WayLeads space code log' legs' start v → ArePut space code log' (steps_of_way legs') [] picks start v → ∥ PicksLead space code log (steps_of_way legs) picks opened w ∥₁
    comes_there picks v led a = ∥∥₁_map lead (λ h.
        let there = ways_lead_once space code rules log' legs' start v w led (leads_too h) in
        let count = a.lead.count in
        let one = ap (λ xs. length xs) a.put in
        let e = ap steps_of_way all in
        record {
          count = omega (arith, count, one, e);
          gated = subst (λ l. IsGatedRun space code l opened picks) same (subst (λ o. IsGatedRun space code log' o picks) begins (subst (IsGatedRun space code log' start) (sym a.put) a.lead.gated));
          leads = ap (λ o. world_run space code o picks) (sym begins) ∙ ap (λ xs. world_run space code start xs) a.put ∙ a.lead.leads ∙ there;
        })

    pub threads_told : (picks : List Pick) (v : WorldAt State Value Fixed) → ArePut space code log' (steps_of_way legs') [] picks start v → AreOfThreads picks
    threads_told picks v a = ap are_of_threads a.put ∙ a.of_threads
