-- Rounds of local steps are turns of the order, behind which no break holds.
use Rattle.std.proofs.Common.{◌≡◌, ◌≢◌, ℕ, zero, suc, ◌+◌, ◌*◌, ◌<◌, ◌≤◌, ◌⊎◌, false, cond, nat_lt, List, [], ◌∷◌, length, Option, Some, None, slice_get, refl, sym, ap, ◌∙◌, subst, arith, inl, inr}
use Rattle.std.specs.Prelude.{sum_by}
use Rattle.std.proofs.lemmas.Bool.{cases_lt, lt-ltb}
use Rattle.std.proofs.lemmas.List.Sums.{sum_by-cons}
use Rattle.std.proofs.lemmas.Option.{slice_get_within}
use Rattle.rw_objects.specs.Space.{Space}
use Rattle.rw_objects.specs.Code.{Code, CodeLaws}
use Rattle.rw_objects.specs.LocalRun.{GoesLocally}
use Rattle.rw_objects.specs.declared.entry.Entry.{Entry}
use Rattle.rw_objects.specs.declared.next.Next.{Next}
use Rattle.rw_objects.specs.declared.next.Next.TheVariants as next
use Rattle.event_core.specs.declared.pick.Input.TheVariants.{Go}
use Rattle.event_core.specs.declared.step.PickStep.TheVariants as step
use Rattle.event_core.specs.PickStep.{step_of_next}
use Rattle.event_core.specs.Threads.{ThreadAt, change_at, thread_after_local, all_steps}
use Rattle.event_core.specs.LocalRun.{thread_in}
use Rattle.event_core.specs.World.{WorldAt, step_of_pick, step_of_thread, world_after_step}
use Rattle.event_core.proofs.LocalRuns.{get_same, get_other, there}
use Rattle.event_core.proofs.SoundSteps.{length_change}
use Rattle.event_core.proofs.Threads.{step_some}
use Rattle.log_pieces.specs.declared.end.End.{End}
use Rattle.log_pieces.specs.declared.flat.Flat.{Flat}
use Rattle.log_pieces.specs.declared.flat.Flat.TheVariants as flat
use Rattle.replay_laws.specs.declared.turn.Turn.{Turn}
use Rattle.replay_laws.specs.declared.turn.Turn.TheVariants as turn
use Rattle.replay_laws.specs.declared.turn.Refusal.TheVariants.{Missing, Clash, Shut, Diverged}
use Rattle.replay_laws.specs.Log.{Log}
use Rattle.replay_laws.specs.RunLog.{end_of_thread}
use Rattle.replay_laws.specs.Gates.{is_open}
use Rattle.replay_laws.specs.Turns.{pick_of, input_for, can_give, same_end, turn_by_step, turn_by_item, turn_by_entry, turn_by_next, turn_by_end, turn_by_thread, turn_of, world_after_turn}
use Rattle.replay_laws.proofs.Finishing.{thread_there}
use Rattle.replay_gate.specs.Answers.{makes_step}
use Rattle.replay_gate.specs.LocalRounds.{Rests, GoesOnTo, AreLocalRounds}
use Rattle.replay_gate.specs.declared.breaks.Break.{Break}
use Rattle.replay_gate.specs.declared.breaks.Break.TheVariants as break
use Rattle.replay_gate.specs.Breaks.{is_event, Hits}
use Rattle.replay_gate.specs.Clear.{IsClear, AreClear}
use Rattle.replay_gate.specs.Stops.{GoesOn, IsBehind}
use Rattle.replay_gate.specs.Notes.{note_by, note_of_turn, notes}
use Rattle.replay_gate.proofs.Noting.{rests_note, quiet_note}
use Rattle.replay_gate.proofs.BreakRoundsOn.{at_length, turn_on}

-- ---- lists

pub same_lists : {A : Type 0} (xs ys : List A) → length xs ≡ length ys → ((t : ℕ) (x y : A) → slice_get xs t ≡ Some x → slice_get ys t ≡ Some y → x ≡ y) → xs ≡ ys
same_lists [] [] n h = refl
same_lists [] (y ∷ ys) n h = absurd (omega (arith, n))
same_lists (x ∷ xs) [] n h = absurd (omega (arith, n))
same_lists (x ∷ xs) (y ∷ ys) n h =
    let here = h 0 x y refl refl in
    let rest = same_lists xs ys (omega (arith, n)) (λ t a b e g. h (suc t) a b e g) in
    ap (λ z. z ∷ xs) here ∙ ap (λ zs. y ∷ zs) rest

more_steps : {A : Type 0} (f : A → ℕ) (xs ys : List A) → length xs ≡ length ys → ((t : ℕ) (x y : A) → slice_get xs t ≡ Some x → slice_get ys t ≡ Some y → f x ≤ f y) → sum_by f xs ≤ sum_by f ys
more_steps f [] [] n h = omega arith
more_steps f [] (y ∷ ys) n h = absurd (omega (arith, n))
more_steps f (x ∷ xs) [] n h = absurd (omega (arith, n))
more_steps f (x ∷ xs) (y ∷ ys) n h =
    let here = h 0 x y refl refl in
    let rest = more_steps f xs ys (omega (arith, n)) (λ t a b e g. h (suc t) a b e g) in
    simp sum_by-cons (omega (arith, here, rest))

some_same : {A : Type 0} (a b : A) → Some a ≡ Some b → a ≡ b
some_same a b h = cc

-- ---- turns that make no step

pub rests_still : (x : Turn) → Rests x → makes_step x ≡ false
rests_still turn.Done h = refl
rests_still turn.Local h = absurd h
rests_still (turn.Event i) h = absurd h
rests_still (turn.Refused r) h = refl

pub rests_goes_on : (x : Turn) → Rests x → GoesOn x
rests_goes_on turn.Done h = tt
rests_goes_on turn.Local h = absurd h
rests_goes_on (turn.Event i) h = absurd h
rests_goes_on (turn.Refused Missing) h = tt
rests_goes_on (turn.Refused Clash) h = tt
rests_goes_on (turn.Refused Shut) h = tt
rests_goes_on (turn.Refused Diverged) h = absurd h

module _ {State Op Reply Value Fixed : Type 0} (space : Space Op Reply Value Fixed) (code : Code State Op Reply Fixed) where
  pub rests_leave : (w : WorldAt State Value Fixed) (t : ℕ) (x : Turn) → Rests x → world_after_turn space code w t x ≡ w
  rests_leave w t turn.Done h = refl
  rests_leave w t turn.Local h = absurd h
  rests_leave w t (turn.Event i) h = absurd h
  rests_leave w t (turn.Refused r) h = refl

  -- ---- a turn is told by the thread and the memory alone

  module _ (log : Log) (w u : WorldAt State Value Fixed) (t : ℕ) (memory : u.memory ≡ w.memory) (thread : slice_get u.threads t ≡ slice_get w.threads t) where
    same_item : (n : Next Op) (item : Entry) → turn_by_item space code u t n item ≡ turn_by_item space code w t n item
    same_item n item =
        ap (λ m. cond (can_give space n item) (cond (is_open item.found m.counts) (turn_by_step (input_for item.kind) (step_of_thread space code m (slice_get u.threads t) (input_for item.kind))) (turn.Refused Shut)) (turn.Refused Diverged)) memory
        ∙ ap (λ o. cond (can_give space n item) (cond (is_open item.found w.memory.counts) (turn_by_step (input_for item.kind) (step_of_thread space code w.memory o (input_for item.kind))) (turn.Refused Shut)) (turn.Refused Diverged)) thread

    same_entry : (n : Next Op) (o : Option (Flat Entry)) → turn_by_entry space code u t n o ≡ turn_by_entry space code w t n o
    same_entry n None = refl
    same_entry n (Some flat.Clash) = refl
    same_entry n (Some (flat.Known item)) = same_item n item

    same_next : (place places : ℕ) (n : Next Op) → turn_by_next space code log u t place places n ≡ turn_by_next space code log w t place places n
    same_next place places next.Local = refl
    same_next place places (next.Ask op) = ap (λ x. cond (nat_lt place places) x (turn.Refused Diverged)) (same_entry (next.Ask op) (log.entry t place))
    same_next place places (next.Asleep resume out) = ap (λ x. cond (nat_lt place places) x (turn.Refused Diverged)) (same_entry (next.Asleep resume out) (log.entry t place))
    same_next place places (next.Halted outcome) = refl

    same_end_turn : (th : ThreadAt State) (o : Option (Flat End)) → turn_by_end space code log u t th o ≡ turn_by_end space code log w t th o
    same_end_turn th None = refl
    same_end_turn th (Some flat.Clash) = refl
    same_end_turn th (Some (flat.Known e)) =
        ap (λ x. cond (nat_lt (code.steps th.state) e.steps) x (cond (same_end e (end_of_thread code th)) turn.Done (turn.Refused Diverged))) (same_next th.places e.places (code.next th.state))

    by_thread : (o : Option (ThreadAt State)) → turn_by_thread space code log u t o ≡ turn_by_thread space code log w t o
    by_thread None = refl
    by_thread (Some th) = same_end_turn th (log.end t)

    pub same_turn : turn_of space code log u t ≡ turn_of space code log w t
    same_turn = by_thread (slice_get u.threads t) ∙ ap (turn_by_thread space code log w t) thread

  -- ---- local steps, one after the other

  abbrev after : ℕ → State → State
  after zero s = s
  after (suc n) s = code.local (after n s)

  after_first : (n : ℕ) (s : State) → after n (code.local s) ≡ after (suc n) s
  after_first zero s = refl
  after_first (suc n) s = ap code.local (after_first n s)

  goes_to : (k : ℕ) (s u : State) → GoesLocally code k s u → after k s ≡ u
  goes_to zero s u g = g
  goes_to (suc k) s u g = sym (after_first k s) ∙ goes_to k (code.local s) u g.2

  record Stands (s : State) : Type 0 where
    pub is_local : code.next s ≡ next.Local
    pub few : code.steps s < 1000000000

  stands_at : (k : ℕ) (s u : State) → GoesLocally code k s u → (j : ℕ) → j < k → Stands (after j s)
  stands_at zero s u g j l = absurd (omega (arith, l))
  stands_at (suc k) s u g zero l = record { is_local = g.0; few = g.1 }
  stands_at (suc k) s u g (suc j) l = subst Stands (after_first j s) (stands_at k (code.local s) u g.2 j (omega (arith, l)))

  module _ (rules : CodeLaws space code) where
    steps_at : (k : ℕ) (s u : State) → GoesLocally code k s u → (j : ℕ) → j ≤ k → code.steps (after j s) ≡ code.steps s + j
    steps_at k s u g zero l = omega arith
    steps_at k s u g (suc j) l =
        let e = rules.local_steps (after j s) (stands_at k s u g j (omega (arith, l))).is_local in
        let i = steps_at k s u g j (omega (arith, l)) in
        omega (arith, e, i)

    module _ (log : Log) (k : ℕ) (w v : WorldAt State Value Fixed) (rounds : AreLocalRounds space code log k w v) where
      -- how far a thread has come where r rounds were made, and of the next one the turns of the threads below j
      record Moved (r j t : ℕ) (th a : ThreadAt State) : Type 0 where
        pub steps : ℕ
        pub before : t < j → steps ≡ suc r
        pub behind : j ≤ t → steps ≡ r
        pub is : a ≡ thread_in (after steps th.state) th

      abbrev MidOf : ℕ → ℕ → ℕ → ThreadAt State → ThreadAt State → ThreadAt State → Type 0
      MidOf r j t th z a = ((s : State) × GoesOnTo space code log k t th s × (z ≡ thread_in s th) × Moved r j t th a) ⊎ (Rests (turn_of space code log w t) × (z ≡ th) × (a ≡ th))

      record IsMid (r j : ℕ) (u : WorldAt State Value Fixed) : Type 0 where
        pub memory : u.memory ≡ w.memory
        pub len : length u.threads ≡ length w.threads
        pub each : (t : ℕ) (th z a : ThreadAt State) → slice_get w.threads t ≡ Some th → slice_get v.threads t ≡ Some z → slice_get u.threads t ≡ Some a → MidOf r j t th z a

      mid_start : IsMid 0 0 w
      mid_start = record {
        memory = refl;
        len = refl;
        each = λ t th z a e f h.
            let same : a ≡ th = some_same a th (sym h ∙ e) in
            elim (rounds.each t th z e f) [
              | inl g ↦ inl (g.0, g.1, g.2, record { steps = 0; before = λ l. absurd (omega (arith, l)); behind = λ l. refl; is = same })
              | inr r ↦ inr (r.0, r.1, same)
            ];
      }

      mid_round : (r n : ℕ) (u : WorldAt State Value Fixed) → n ≡ length w.threads → IsMid r n u → IsMid (suc r) 0 u
      mid_round r n u all m = record {
        memory = m.memory;
        len = m.len;
        each = λ t th z a e f h.
            elim (m.each t th z a e f h) [
              | inl g ↦ inl (
                g.0,
                g.1,
                g.2,
                record {
                  steps = g.3.steps;
                  before = λ l. absurd (omega (arith, l));
                  behind = λ l. g.3.before (let i = slice_get_within w.threads t th e in omega (arith, i, all));
                  is = g.3.is;
                },
              )
              | inr x ↦ inr x
            ];
      }

      -- all rounds were made
      mid_end : (u : WorldAt State Value Fixed) → IsMid k 0 u → u ≡ v
      mid_end u m =
          let threads : u.threads ≡ v.threads = same_lists u.threads v.threads (m.len ∙ sym rounds.len) (λ t a z h f.
          let i = slice_get_within u.threads t a h in
          let n = m.len in
          let e = there w.threads t (omega (arith, i, n)) in
          elim (m.each t e.0 z a e.1 f h) [
            | inl g ↦ g.3.is ∙ ap (λ s. thread_in s e.0) (ap (λ x. after x e.0.state) (g.3.behind (omega arith)) ∙ goes_to k e.0.state g.0 g.1.goes) ∙ sym g.2
            | inr x ↦ x.2 ∙ sym x.1
          ]) in
          ap (λ ts. record { threads = ts; memory = u.memory }) threads ∙ ap (λ y. record { threads = v.threads; memory = y }) (m.memory ∙ sym rounds.memory)

      -- behind a turn of thread j, of which the threads but j stayed
      at_or_not : (r j : ℕ) (u : WorldAt State Value Fixed) → IsMid r j u → (t : ℕ) (th z a : ThreadAt State) → slice_get w.threads t ≡ Some th → slice_get v.threads t ≡ Some z
          → (t ≡ j → MidOf r (suc j) j th z a) → (t ≢ j → slice_get u.threads t ≡ Some a) → MidOf r (suc j) t th z a
      at_or_not r j u m t th z a e f here other =
          let far : t ≢ j → MidOf r (suc j) t th z a = λ d.
          elim (m.each t th z a e f (other d)) [
            | inl g ↦ inl (
              g.0,
              g.1,
              g.2,
              record {
                steps = g.3.steps;
                before = λ l. g.3.before (elim (cases_lt t j) [ inl x ↦ x | inr x ↦ absurd (d (omega (arith, l, x))) ]);
                behind = λ l. g.3.behind (omega (arith, l));
                is = g.3.is;
              },
            )
            | inr x ↦ inr x
          ] in
          elim (cases_lt t j) [
            | inl l ↦ far (λ q. omega (arith, l, q))
            | inr l ↦
                elim (cases_lt j t) [
                  | inl x ↦ far (λ q. omega (arith, x, q))
                  | inr x ↦ let q : t ≡ j = omega (arith, l, x) in subst (λ i. MidOf r (suc j) i th z a) (sym q) (here q)
                ]
          ]

      -- a turn of thread j in round r
      record TurnOn (r j : ℕ) (u : WorldAt State Value Fixed) : Type 0 where
        pub goes_on : GoesOn (turn_of space code log u j)
        pub mid : IsMid r (suc j) (world_after_turn space code u j (turn_of space code log u j))
        pub none : (b : Break) → IsClear code w k b → Hits space code log u j b → ⊥
        pub quiet : (note : WorldAt State Value Fixed → ℕ → WorldAt State Value Fixed → List ℕ) → note_of_turn space code note log u j ≡ []

      -- the thread makes a local step
      module _ (r j : ℕ) (u : WorldAt State Value Fixed) (m : IsMid r j u) (less : r < k) (th z a : ThreadAt State) (e : slice_get w.threads j ≡ Some th) (f : slice_get v.threads j ≡ Some z) (h : slice_get u.threads j ≡ Some a)
          (s : State) (g : GoesOnTo space code log k j th s) (ends : z ≡ thread_in s th) (moved : Moved r j j th a) where
        stands : Stands a.state
        stands =
            subst Stands (sym (ap (λ (x : ThreadAt State). x.state) moved.is ∙ ap (λ n. after n th.state) (moved.behind (let l : j ≤ j = omega arith in l))))
            (stands_at k th.state s g.goes r less)

        made : code.steps a.state ≡ code.steps th.state + r
        made =
            ap (λ (x : ThreadAt State). code.steps x.state) moved.is ∙ ap (λ n. code.steps (after n th.state)) (moved.behind (let l : j ≤ j = omega arith in l))
            ∙ steps_at k th.state s g.goes r (omega (arith, less))

        turns_locally : turn_of space code log u j ≡ turn.Local
        turns_locally =
            let below : code.steps a.state < g.end.steps = let x = g.within in let y = made in omega (arith, x, y, less) in
            ap (turn_by_thread space code log u j) h
            ∙ ap (turn_by_end space code log u j a) g.is_known
            ∙ ap (λ b. cond b (turn_by_next space code log u j a.places g.end.places (code.next a.state)) (cond (same_end g.end (end_of_thread code a)) turn.Done (turn.Refused Diverged))) (lt-ltb _ _ below)
            ∙ ap (turn_by_next space code log u j a.places g.end.places) stands.is_local

        leads : world_after_turn space code u j (turn_of space code log u j) ≡ record { threads = change_at u.threads j (thread_after_local code); memory = u.memory }
        leads =
            let stepped : step_of_pick space code u (pick_of j Go) ≡ step.Local = step_some space code u (pick_of j Go) a h stands.few ∙ ap (λ x. step_of_next space u.memory x Go) stands.is_local in
            ap (world_after_turn space code u j) turns_locally ∙ ap (world_after_step space code u j) stepped

        at_thread : (th' z' a' : ThreadAt State) → slice_get w.threads j ≡ Some th' → slice_get v.threads j ≡ Some z' → slice_get (change_at u.threads j (thread_after_local code)) j ≡ Some a' → MidOf r (suc j) j th' z' a'
        at_thread th' z' a' e' f' h' =
            let st : th ≡ th' = some_same th th' (sym e ∙ e') in
            let sz : z' ≡ z = some_same z' z (sym f' ∙ f) in
            let sa : a' ≡ thread_after_local code a = some_same a' (thread_after_local code a) (sym h' ∙ get_same (thread_after_local code) u.threads j a h) in
            subst (λ x. MidOf r (suc j) j x z' a') st
            (inl (
              s,
              g,
              sz ∙ ends,
              record {
                steps = suc r;
                before = λ l. refl;
                behind = λ l. absurd (omega (arith, l));
                is = sa ∙ ap (thread_after_local code) moved.is ∙ ap (λ n. thread_in (after (suc n) th.state) th) (moved.behind (let l : j ≤ j = omega arith in l));
              },
            ))

        none_holds : (b : Break) → IsClear code w k b → Hits space code log u j b → ⊥
        none_holds (break.Place t place) clear hits = let x = hits.holds.event in let y = ap is_event turns_locally in cc
        none_holds (break.Step t steps) clear hits =
            let p = hits.holds in
            let after_it = ap (λ (x : WorldAt State Value Fixed). slice_get x.threads j) leads ∙ get_same (thread_after_local code) u.threads j a h in
            let same : p.at ≡ thread_after_local code a = some_same p.at (thread_after_local code a) (sym p.exists ∙ after_it) in
            let one = rules.local_steps a.state stands.is_local in
            let is : code.steps (code.local a.state) ≡ steps = sym (ap (λ (x : ThreadAt State). code.steps x.state) same) ∙ p.steps_made in
            let so = made in
            elim (clear th (subst (λ i. slice_get w.threads i ≡ Some th) p.same e)) [
              | inl l ↦ omega (arith, l, one, is, so)
              | inr l ↦ omega (arith, l, one, is, so, less)
            ]
        none_holds (break.Write objects) clear hits = let x = hits.holds in x.changed (ap (λ (y : WorldAt State Value Fixed). (y.memory.counts x.object).version) leads)

        local_turn : TurnOn r j u
        local_turn = record {
          goes_on = subst GoesOn (sym turns_locally) tt;
          mid = subst (IsMid r (suc j)) (sym leads)
              (record {
                memory = m.memory;
                len = length_change (thread_after_local code) u.threads j ∙ m.len;
                each = λ t th' z' a' e' f' h'. at_or_not r j u m t th' z' a' e' f'
                    (λ q. at_thread th' z' a' (subst (λ i. slice_get w.threads i ≡ Some th') q e') (subst (λ i. slice_get v.threads i ≡ Some z') q f') (subst (λ i. slice_get (change_at u.threads j (thread_after_local code)) i ≡ Some a') q h'))
                    (λ d. sym (get_other (thread_after_local code) u.threads j t d) ∙ h');
              });
          none = none_holds;
          quiet = λ note. ap (note_by space code note u j) turns_locally;
        }

      -- the thread rests
      resting_turn : (r j : ℕ) (u : WorldAt State Value Fixed) → IsMid r j u → (th z a : ThreadAt State) → slice_get w.threads j ≡ Some th → slice_get v.threads j ≡ Some z → slice_get u.threads j ≡ Some a
          → Rests (turn_of space code log w j) → z ≡ th → a ≡ th → TurnOn r j u
      resting_turn r j u m th z a e f h rests rests_z rests_a =
          let same = same_turn log w u j m.memory (h ∙ ap (λ x. Some x) rests_a ∙ sym e) in
          let still : Rests (turn_of space code log u j) = subst Rests (sym same) rests in
          record {
            goes_on = rests_goes_on (turn_of space code log u j) still;
            mid = subst (IsMid r (suc j)) (sym (rests_leave u j (turn_of space code log u j) still))
                (record {
                  memory = m.memory;
                  len = m.len;
                  each = λ t th' z' a' e' f' h'. at_or_not r j u m t th' z' a' e' f'
                      (λ q.
                      let st : th' ≡ th = some_same th' th (sym (subst (λ i. slice_get w.threads i ≡ Some th') q e') ∙ e) in
                      let sz : z' ≡ z = some_same z' z (sym (subst (λ i. slice_get v.threads i ≡ Some z') q f') ∙ f) in
                      let sa : a' ≡ a = some_same a' a (sym (subst (λ i. slice_get u.threads i ≡ Some a') q h') ∙ h) in
                      inr (rests, sz ∙ rests_z ∙ sym st, sa ∙ rests_a ∙ sym st))
                      (λ d. h');
                });
            none = λ b clear hits. let x = hits.step in let y = rests_still (turn_of space code log u j) still in cc;
            quiet = λ note. rests_note space code note u j (turn_of space code log u j) still;
          }

      turn_mid : (r j : ℕ) (u : WorldAt State Value Fixed) → IsMid r j u → r < k → j < length w.threads → TurnOn r j u
      turn_mid r j u m less within =
          let e = there w.threads j within in
          let f = there v.threads j (let n = rounds.len in omega (arith, n, within)) in
          let h = there u.threads j (let n = m.len in omega (arith, n, within)) in
          elim (m.each j e.0 f.0 h.0 e.1 f.1 h.1) [
            | inl g ↦ local_turn r j u m less e.0 f.0 h.0 e.1 f.1 h.1 g.0 g.1 g.2 g.3
            | inr x ↦ resting_turn r j u m e.0 f.0 h.0 e.1 f.1 h.1 x.0 x.1 x.2
          ]

      -- ---- the turns in their order

      module _ (start : WorldAt State Value Fixed) (order : List ℕ) (breaks : List Break) (first : ℕ) (clear : AreClear code w k breaks) where
        abbrev n : ℕ
        n = length start.threads

        record Point (r j : ℕ) : Type 0 where
          pub world : WorldAt State Value Fixed
          pub mid : IsMid r j world
          pub behind : IsBehind space code log start order breaks (length order + ((first + r) * n + j)) world
          pub quiet : (note : WorldAt State Value Fixed → ℕ → WorldAt State Value Fixed → List ℕ)
              → notes space code note log start order (length order + ((first + r) * n + j)) ≡ notes space code note log start order (length order + (first * n + 0))

        next_turn : (r j : ℕ) → r < k → j < n → n ≡ length w.threads → Point r j → Point r (suc j)
        next_turn r j less within all p =
            let t = turn_mid r j p.world p.mid less (omega (arith, within, all)) in
            record {
              world = world_after_turn space code p.world j (turn_of space code log p.world j);
              mid = t.mid;
              behind = subst (λ i. IsBehind space code log start order breaks i (world_after_turn space code p.world j (turn_of space code log p.world j)))
                  (let i : suc (length order + ((first + r) * n + j)) ≡ length order + ((first + r) * n + suc j) = omega arith in i)
                  (turn_on space code log start order breaks (length order + ((first + r) * n + j)) j p.world (world_after_turn space code p.world j (turn_of space code log p.world j)) p.behind
                  (thread_there order n (first + r) j within) t.goes_on (λ i b is. t.none b (clear i b is)) refl);
              quiet = λ note.
                  let i : length order + ((first + r) * n + suc j) ≡ suc (length order + ((first + r) * n + j)) = omega arith in
                  ap (notes space code note log start order) i
                  ∙ quiet_note space code log start order note (length order + ((first + r) * n + j)) j p.world p.behind.at (thread_there order n (first + r) j within) (t.quiet note)
                  ∙ p.quiet note;
            }

        turns : (r j : ℕ) → r < k → j ≤ n → n ≡ length w.threads → Point r 0 → Point r j
        turns r zero less within all p = p
        turns r (suc j) less within all p = next_turn r j less (omega (arith, within)) all (turns r j less (omega (arith, within)) all p)

        next_round : (r : ℕ) → n ≡ length w.threads → Point r n → Point (suc r) 0
        next_round r all p = record {
          world = p.world;
          mid = mid_round r n p.world all p.mid;
          behind = subst (λ i. IsBehind space code log start order breaks i p.world)
              (let d : (first + suc r) * n ≡ (first + r) * n + n = grind arith in let i : length order + ((first + r) * n + n) ≡ length order + ((first + suc r) * n + 0) = omega (arith, d) in i) p.behind;
          quiet = λ note.
              let d : (first + suc r) * n ≡ (first + r) * n + n = grind arith in
              let i : length order + ((first + suc r) * n + 0) ≡ length order + ((first + r) * n + n) = omega (arith, d) in
              ap (notes space code note log start order) i ∙ p.quiet note;
        }

        all_rounds : (r : ℕ) → r ≤ k → n ≡ length w.threads → Point 0 0 → Point r 0
        all_rounds zero l all p = p
        all_rounds (suc r) l all p = next_round r all (turns r n (omega (arith, l)) (omega arith) all (all_rounds r (omega (arith, l)) all p))

        all_made : IsBehind space code log start order breaks (length order + (first * n + 0)) w → Point k 0
        all_made behind =
            let all = sym (at_length space code log start order breaks (length order + (first * n + 0)) w behind) in
            let i : first ≡ first + 0 = omega arith in
            all_rounds k (omega arith) all
            (record {
              world = w;
              mid = mid_start;
              behind = subst (λ x. IsBehind space code log start order breaks (length order + (x * n + 0)) w) i behind;
              quiet = λ note. ap (λ x. notes space code note log start order (length order + (x * n + 0))) (sym i);
            })

        pub behind_rounds : IsBehind space code log start order breaks (length order + (first * n + 0)) w → IsBehind space code log start order breaks (length order + ((first + k) * n + 0)) v
        behind_rounds behind =
            let p = all_made behind in
            subst (IsBehind space code log start order breaks (length order + ((first + k) * n + 0))) (mid_end p.world p.mid) p.behind

        -- none of their turns is noted
        pub quiet_rounds : IsBehind space code log start order breaks (length order + (first * n + 0)) w → (note : WorldAt State Value Fixed → ℕ → WorldAt State Value Fixed → List ℕ)
            → notes space code note log start order (length order + ((first + k) * n + 0)) ≡ notes space code note log start order (length order + (first * n + 0))
        quiet_rounds behind note = (all_made behind).quiet note

      -- no thread has made fewer steps
      pub steps_grow : all_steps code w.threads ≤ all_steps code v.threads
      steps_grow = more_steps (λ (t : ThreadAt State). code.steps t.state) w.threads v.threads (sym rounds.len) (λ t x y e f.
          elim (rounds.each t x y e f) [
            | inl g ↦
                let is : code.steps y.state ≡ code.steps x.state + k =
                ap (λ (z : ThreadAt State). code.steps z.state) g.2 ∙ sym (ap code.steps (goes_to k x.state g.0 g.1.goes)) ∙ steps_at k x.state g.0 g.1.goes k (omega arith) in
                omega (arith, is)
            | inr x ↦ let is = ap (λ (z : ThreadAt State). code.steps z.state) x.1 in omega (arith, is)
          ])

-- fewer rounds are clear of a break too
pub fewer_clear : {State Op Reply Value Fixed : Type 0} (code : Code State Op Reply Fixed) (w : WorldAt State Value Fixed) (k few : ℕ) (b : Break) → few ≤ k → IsClear code w k b → IsClear code w few b
fewer_clear code w k few (break.Place t place) l c = tt
fewer_clear code w k few (break.Step t steps) l c = λ th e. elim (c th e) [ inl x ↦ inl x | inr x ↦ inr (omega (arith, x, l)) ]
fewer_clear code w k few (break.Write objects) l c = tt
