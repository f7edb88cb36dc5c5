-- A world of picks, as the laws see it.
use Rattle.std.proofs.Common.{zero, suc, ◌≡◌, ◌≢◌, ℕ, ◌+◌, ◌<◌, ◌≤◌, ◌==◌, Bool, true, false, cond, List, [], ◌∷◌, length, map, Option, Some, None, slice_get, refl, sym, ap, ◌∙◌, subst, arith, inl, inr}
use Rattle.std.proofs.lemmas.Bool.Decides.{eqb_tells}
use Rattle.std.proofs.lemmas.Option.{slice_get_within}
use Rattle.rw_objects.specs.declared.touch.Mode.{Mode}
use Rattle.rw_objects.specs.declared.touch.Mode.TheVariants.{Read, Write}
use Rattle.rw_objects.specs.declared.touch.Touch.{Touch as Touched}
use Rattle.rw_objects.specs.declared.touch.Found.TheVariants as found
use Rattle.rw_objects.specs.declared.count.Count.{Count}
use Rattle.rw_objects.specs.declared.next.Next.{Next as Nexts}
use Rattle.rw_objects.specs.declared.next.Next.TheVariants as nexts
use Rattle.rw_objects.specs.declared.entry.Kind.{Kind}
use Rattle.rw_objects.specs.declared.entry.Kind.TheVariants.{Access, Woken, TimedOut}
use Rattle.event_core.proofs.Threads.{step_some}
use Rattle.event_core.proofs.LocalRuns.{get_same, get_other}
use Rattle.rw_objects.specs.Space.{Space, SpaceLaws, RisesFrom, mode_at, is_written}
use Rattle.rw_objects.specs.Counts.{count_after_if, all_found}
use Rattle.rw_objects.specs.Code.{Code, CodeLaws, NextKinds}
use Rattle.rw_objects.specs.Memory.{Memory}
use Rattle.event_core.specs.declared.pick.Pick.{Pick}
use Rattle.event_core.specs.declared.pick.Input.{Input}
use Rattle.event_core.specs.declared.pick.Input.TheVariants.{Go, TimeOut}
use Rattle.event_core.specs.declared.step.PickStep.{PickStep}
use Rattle.event_core.specs.declared.step.PickStep.TheVariants as step
use Rattle.event_core.specs.declared.step.StepFault.{StepFault}
use Rattle.event_core.specs.Threads.{ThreadAt, change_at, thread_after_local, thread_after_reply}
use Rattle.event_core.specs.Sound.{IsSound}
use Rattle.event_core.specs.PickStep.{step_of_next}
use Rattle.event_core.specs.World.{WorldAt, step_of_pick, world_after, world_after_step}
use Rattle.event_core.specs.PickStep.{is_enabled}
use Rattle.event_core.specs.Run.{IsRun as AreEnabled, world_run}
use Rattle.event_core.proofs.Steps.{thread_local}
use Rattle.event_core.proofs.SoundSteps.{local_kept, event_kept, event_of, length_change}
use Rattle.replay_laws.proofs.System.{Touch, ReadOf, WriteOf, Absent, Reading, Writing, stronger, mode, System, Next, Local, Ask, Asleep, Halted}
use Rattle.replay_laws.proofs.System as system
use Rattle.replay_laws.proofs.Worlds.{Action, Move, Do, action, version_after, reads_after, value_after, found_by, advance, IsSameWorld, Happening, Does, IsStep, IsRun}
use Rattle.replay_laws.proofs.Views.{met_by, met_as, going, next_at, state_at, steps_at, places_at, system_of, view, entry_if, happening, happenings}

-- how a list of rising touches meets an object
abbrev as_mode : Option Mode → system.Mode
as_mode None = Absent
as_mode (Some Read) = Reading
as_mode (Some Write) = Writing

other_object : (o x : ℕ) (m : Mode) (ts : List Touch) → (o == x) ≡ false → mode (met_as m o ∷ ts) x ≡ mode ts x
other_object o x Read ts e = ap (λ b. stronger (cond b Reading Absent) (mode ts x)) e
other_object o x Write ts e = ap (λ b. stronger (cond b Writing Absent) (mode ts x)) e

own_object : (o x : ℕ) (m : Mode) (ts : List Touch) → (o == x) ≡ true → mode ts x ≡ Absent → mode (met_as m o ∷ ts) x ≡ as_mode (Some m)
own_object o x Read ts e a = ap (λ b. stronger (cond b Reading Absent) (mode ts x)) e ∙ ap (stronger Reading) a
own_object o x Write ts e a = ap (λ b. stronger (cond b Writing Absent) (mode ts x)) e ∙ ap (stronger Writing) a

not_same : (o x : ℕ) → x < o → (o == x) ≡ false
not_same o x l = elim (eqb_tells o x) [ inl e ↦ absurd (omega (arith, e.1, l)) | inr e ↦ e.0 ]

absent_below : (n x : ℕ) (ts : List Touched) → RisesFrom n ts → x < n → mode (map met_by ts) x ≡ Absent
absent_below n x [] r l = refl
absent_below n x (t ∷ ts) r l =
    let above : n ≤ t.object = r.0 in
    other_object t.object x t.mode (map met_by ts) (not_same t.object x (omega (arith, above, l))) ∙ absent_below (t.object + 1) x ts r.1 (omega (arith, above, l))

modes : (n x : ℕ) (ts : List Touched) → RisesFrom n ts → mode (map met_by ts) x ≡ as_mode (mode_at ts x)
modes n x [] r = refl
modes n x (t ∷ ts) r =
    elim (eqb_tells t.object x) [
      | inl e ↦
          own_object t.object x t.mode (map met_by ts) e.0 (absent_below (t.object + 1) x ts r.1 (omega (arith, e.1)))
          ∙ ap as_mode (sym (ap (λ b. cond b (Some t.mode) (mode_at ts x)) e.0))
      | inr e ↦
          other_object t.object x t.mode (map met_by ts) e.0
          ∙ modes (t.object + 1) x ts r.1
          ∙ ap as_mode (sym (ap (λ b. cond b (Some t.mode) (mode_at ts x)) e.0))
    ]

version_of : (m : Option Mode) (c : Count) → (count_after_if m c).version ≡ version_after (as_mode m) c.version
version_of None c = refl
version_of (Some Read) c = refl
version_of (Some Write) c = refl

reads_of : (m : Option Mode) (c : Count) → (count_after_if m c).reads ≡ reads_after (as_mode m) c.reads
reads_of None c = refl
reads_of (Some Read) c = refl
reads_of (Some Write) c = refl

value_of : {V : Type 0} (m : Option Mode) (new old : V) → cond (is_written m) new old ≡ value_after (as_mode m) new old
value_of None new old = refl
value_of (Some Read) new old = refl
value_of (Some Write) new old = refl

-- what the touches of an operation find
found_as : (m : Mode) (o : ℕ) (ts : List Touched) (counts : ℕ → Count) → all_found ts counts ≡ found_by (λ x. (counts x).version) (λ x. (counts x).reads) (map met_by ts)
    → all_found (record { object = o; mode = m } ∷ ts) counts ≡ found_by (λ x. (counts x).version) (λ x. (counts x).reads) (met_as m o ∷ map met_by ts)
found_as Read o ts counts e = ap (λ l. found.Read o (counts o).version ∷ l) e
found_as Write o ts counts e = ap (λ l. found.Write o (counts o).version (counts o).reads ∷ l) e

pub found_is : (ts : List Touched) (counts : ℕ → Count) → all_found ts counts ≡ found_by (λ x. (counts x).version) (λ x. (counts x).reads) (map met_by ts)
found_is [] counts = refl
found_is (t ∷ ts) counts = found_as t.mode t.object ts counts (found_is ts counts)

observe : {A B : Type 0} (g : Option A → B) (f : A → A) (xs : List A) (t x : ℕ) (a : A) → slice_get xs t ≡ Some a → g (slice_get (change_at xs t f) x) ≡ cond (x == t) (g (Some (f a))) (g (slice_get xs x))
observe g f xs t x a is =
    elim (eqb_tells x t) [
      | inl e ↦ ap (λ k. g (slice_get (change_at xs t f) k)) e.1 ∙ ap g (get_same f xs t a is) ∙ sym (ap (λ b. cond b (g (Some (f a))) (g (slice_get xs x))) e.0)
      | inr e ↦ ap g (get_other f xs t x e.1) ∙ sym (ap (λ b. cond b (g (Some (f a))) (g (slice_get xs x))) e.0)
    ]

at_same : {A : Type 0} (x t : ℕ) (a b c : A) → (x ≡ t → a ≡ b) → cond (x == t) a c ≡ cond (x == t) b c
at_same x t a b c h =
    elim (eqb_tells x t) [
      | inl e ↦ ap (λ k. cond k a c) e.0 ∙ h e.1 ∙ sym (ap (λ k. cond k b c) e.0)
      | inr e ↦ ap (λ k. cond k a c) e.0 ∙ sym (ap (λ k. cond k b c) e.0)
    ]

same_op : {Op : Type 0} (b : Bool) (op done : Op) (f : StepFault) → cond b (step.Event op) (step.Refused f) ≡ step.Event done → op ≡ done
same_op true op done f h = cc
same_op false op done f h = absurd (cc)

not_local : {Op : Type 0} (b : Bool) (op : Op) (f : StepFault) → cond b (step.Event op) (step.Refused f) ≡ step.Local → ⊥
not_local true op f h = cc
not_local false op f h = cc

module _ {State Op Reply Value Fixed : Type 0} (space : Space Op Reply Value Fixed) (code : Code State Op Reply Fixed) where
  does_move : (m : Memory Value Fixed) (n : Nexts Op) (s : State) (input : Input) → step_of_next space m n input ≡ step.Local → action (going code n s) input ≡ Move (Some (code.local s))
  does_move m (nexts.Halted outcome) s input h = absurd (cc)
  does_move m nexts.Local s Go h = refl
  does_move m nexts.Local s TimeOut h = absurd (cc)
  does_move m (nexts.Ask op) s Go h = absurd (cc)
  does_move m (nexts.Ask op) s TimeOut h = absurd (cc)
  does_move m (nexts.Asleep resume out) s Go h = absurd (not_local _ resume _ h)
  does_move m (nexts.Asleep resume None) s TimeOut h = absurd (cc)
  does_move m (nexts.Asleep resume (Some out)) s TimeOut h = absurd (not_local _ out _ h)

  does_op : (kind : Kind) (asked op : Op) (k : Reply → Option State) → asked ≡ op → space.kind asked ≡ kind → Do kind asked k ≡ Do (space.kind op) op k
  does_op kind asked op k e is = ap (λ o. Do kind o k) e ∙ ap (λ i. Do i op k) (sym is ∙ ap space.kind e)

  pub does_event : (m : Memory Value Fixed) (n : Nexts Op) (s : State) (input : Input) (op : Op) → NextKinds space n → step_of_next space m n input ≡ step.Event op → action (going code n s) input ≡ Do (space.kind op) op (λ r. Some (code.take s r))
  does_event m (nexts.Halted outcome) s input op kinds h = absurd (cc)
  does_event m nexts.Local s Go op kinds h = absurd (cc)
  does_event m nexts.Local s TimeOut op kinds h = absurd (cc)
  does_event m (nexts.Ask asked) s Go op kinds h = let e : asked ≡ op = cc in does_op Access asked op _ e kinds
  does_event m (nexts.Ask asked) s TimeOut op kinds h = absurd (cc)
  does_event m (nexts.Asleep resume None) s Go op kinds h = does_op Woken resume op _ (same_op _ resume op _ h) kinds
  does_event m (nexts.Asleep resume (Some out)) s Go op kinds h = does_op Woken resume op _ (same_op _ resume op _ h) kinds.0
  does_event m (nexts.Asleep resume None) s TimeOut op kinds h = absurd (cc)
  does_event m (nexts.Asleep resume (Some out)) s TimeOut op kinds h = does_op TimedOut out op _ (same_op _ out op _ h) kinds.1

  module _ (laws : SpaceLaws space) (rules : CodeLaws space code) where
    pub kept_after : (w : WorldAt State Value Fixed) (p : Pick) → IsSound code w.threads w.memory → IsSound code (world_after space code w p).threads (world_after space code w p).memory
    kept_after w p kept = go (step_of_pick space code w p) refl
      where
        go : (j : PickStep Op) → step_of_pick space code w p ≡ j → IsSound code (world_after_step space code w p.thread j).threads (world_after_step space code w p.thread j).memory
        go (step.Refused f) q = kept
        go step.Local q = local_kept space code rules w p q kept
        go (step.Event op) q = event_kept space code laws rules w p op _ q kept

    module _ (w : WorldAt State Value Fixed) (p : Pick) (kept : IsSound code w.threads w.memory) where
      abbrev sys : System Value Op Reply (Option State)
      sys = system_of space code w.memory.fixed (length w.threads)

      -- a step of one thread, and what it leaves of the threads
      threads_local : (t : ThreadAt State) → slice_get w.threads p.thread ≡ Some t → code.steps (code.local t.state) ≡ code.steps t.state + 1
          → IsSameWorld (view space code (world_after_step space code w p.thread step.Local)) (advance (view space code w) p.thread (Some (code.local t.state)) 0 [] w.memory.values)
      threads_local t is more =
          record {
            state = λ x. observe (state_at code) (thread_after_local code) w.threads p.thread x t is;
            steps = λ x. observe (steps_at code) (thread_after_local code) w.threads p.thread x t is ∙ at_same x p.thread _ _ _ (λ e. more ∙ sym (ap (λ o. steps_at code o + 1) (ap (slice_get w.threads) e ∙ is)));
            places = λ x. observe (places_at code) (thread_after_local code) w.threads p.thread x t is ∙ at_same x p.thread _ _ _ (λ e. let k : places_at code (slice_get w.threads x) ≡ t.places = ap (places_at code) (ap (slice_get w.threads) e ∙ is) in omega (arith, k));
            value = λ x. refl;
            version = λ x. refl;
            reads = λ x. refl;
          }

      threads_event : (t : ThreadAt State) (op : Op) → slice_get w.threads p.thread ≡ Some t → RisesFrom 0 (space.touches op) → ((r : Reply) → code.steps (code.take t.state r) ≡ code.steps t.state + 1)
          → IsSameWorld (view space code (world_after_step space code w p.thread (step.Event op))) (advance (view space code w) p.thread (Some (code.take t.state (sys.reply op w.memory.values))) 1 (sys.touches op) (sys.change op w.memory.values))
      threads_event t op is rises more =
          let f = thread_after_reply code (sys.reply op w.memory.values) in
          record {
            state = λ x. observe (state_at code) f w.threads p.thread x t is;
            steps = λ x. observe (steps_at code) f w.threads p.thread x t is ∙ at_same x p.thread _ _ _ (λ e. more _ ∙ sym (ap (λ o. steps_at code o + 1) (ap (slice_get w.threads) e ∙ is)));
            places = λ x. observe (places_at code) f w.threads p.thread x t is ∙ at_same x p.thread _ _ _ (λ e. sym (ap (λ o. places_at code o + 1) (ap (slice_get w.threads) e ∙ is)));
            value = λ x. value_of (mode_at (space.touches op) x) _ _ ∙ ap (λ m. value_after m (sys.change op w.memory.values x) (w.memory.values x)) (sym (modes 0 x (space.touches op) rises));
            version = λ x. version_of (mode_at (space.touches op) x) _ ∙ ap (λ m. version_after m (w.memory.counts x).version) (sym (modes 0 x (space.touches op) rises));
            reads = λ x. reads_of (mode_at (space.touches op) x) _ ∙ ap (λ m. reads_after m (w.memory.counts x).reads) (sym (modes 0 x (space.touches op) rises));
          }

      abbrev h : Happening Value (Option State)
      h = happening space code w p

      acts : (t : ThreadAt State) (a : Action Op Reply (Option State)) → slice_get w.threads p.thread ≡ Some t → action (going code (code.next t.state) t.state) p.input ≡ a → action (sys.next (h.before.state h.thread)) h.input ≡ a
      acts t a is q = ap (λ o. action (next_at code (state_at code o)) p.input) is ∙ q

      step_local : step_of_pick space code w p ≡ step.Local → IsStep sys h
      step_local q =
          let e = thread_local space code w.memory (slice_get w.threads p.thread) p.input q in
          let n = sym (step_some space code w p e.0 e.1 e.2.steps) ∙ q in
          record {
            exists = slice_get_within w.threads p.thread e.0 e.1;
            within = subst (λ o. steps_at code o < 1000000000) (sym e.1) e.2.steps;
            does = subst (Does sys h) (sym (acts e.0 _ e.1 (does_move w.memory (code.next e.0.state) e.0.state p.input n))) (
              subst (λ j. IsSameWorld (view space code (world_after_step space code w p.thread j)) (advance (view space code w) p.thread (Some (code.local e.0.state)) 0 [] w.memory.values)) (sym q) (threads_local e.0 e.1 (rules.local_steps e.0.state e.2.next)),
              ap (entry_if space code w.memory) q,
            );
          }

      step_event : (op : Op) → step_of_pick space code w p ≡ step.Event op → IsStep sys h
      step_event op q =
          let e = event_of space code laws rules w p op q kept in
          let n = sym (step_some space code w p e.0 e.1 e.2.steps) ∙ q in
          record {
            exists = slice_get_within w.threads p.thread e.0 e.1;
            within = subst (λ o. steps_at code o < 1000000000) (sym e.1) e.2.steps;
            does = subst (Does sys h) (sym (acts e.0 _ e.1 (does_event w.memory (code.next e.0.state) e.0.state p.input op (rules.kinds e.0.state) n))) (
              e.2.made.ready,
              subst (λ j. IsSameWorld (view space code (world_after_step space code w p.thread j)) (advance (view space code w) p.thread (Some (code.take e.0.state (sys.reply op w.memory.values))) 1 (sys.touches op) (sys.change op w.memory.values))) (sym q) (threads_event e.0 op e.1 (laws.rising w.memory.fixed op e.2.made.fits) (λ r. rules.take_steps e.0.state r e.2.made.takes)),
              ap (entry_if space code w.memory) q ∙ ap (λ l. Some (record { kind = space.kind op; found = l })) (found_is (space.touches op) w.memory.counts),
            );
          }

      pub step_is : is_enabled (step_of_pick space code w p) ≡ true → IsStep sys h
      step_is on = go (step_of_pick space code w p) refl on
        where
          go : (j : PickStep Op) → step_of_pick space code w p ≡ j → is_enabled j ≡ true → IsStep sys h
          go (step.Refused f) q on = absurd (cc)
          go step.Local q on = step_local q
          go (step.Event op) q on = step_event op q

    -- a step keeps the fixed numbers and the number of threads
    pub same_system : (w : WorldAt State Value Fixed) (p : Pick) → system_of space code (world_after space code w p).memory.fixed (length (world_after space code w p).threads) ≡ system_of space code w.memory.fixed (length w.threads)
    same_system w p = go (step_of_pick space code w p)
      where
        go : (j : PickStep Op) → system_of space code (world_after_step space code w p.thread j).memory.fixed (length (world_after_step space code w p.thread j).threads) ≡ system_of space code w.memory.fixed (length w.threads)
        go (step.Refused f) = refl
        go step.Local = ap (system_of space code w.memory.fixed) (length_change (thread_after_local code) w.threads p.thread)
        go (step.Event op) = ap (system_of space code w.memory.fixed) (length_change (thread_after_reply code _) w.threads p.thread)

    pub run_is : (w : WorldAt State Value Fixed) (ps : List Pick) → IsSound code w.threads w.memory → AreEnabled space code w ps → IsRun (system_of space code w.memory.fixed (length w.threads)) (view space code w) (happenings space code w ps) (view space code (world_run space code w ps))
    run_is w [] kept r = refl
    run_is w (p ∷ ps) kept r =
        let v = world_after space code w p in
        (refl, step_is w p kept r.0, subst (λ s. IsRun s (view space code v) (happenings space code v ps) (view space code (world_run space code v ps))) (same_system w p) (run_is v ps (kept_after w p kept) r.1))
