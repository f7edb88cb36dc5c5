-- One step more of the threads that can go on.
use Rattle.std.proofs.Common.{◌≡◌, ℕ, ◌+◌, ◌<◌, ◌&&◌, ◌||◌, Bool, true, false, cond, List, [], ◌∷◌, ◌++◌, length, Option, Some, None, slice_get, refl, sym, ap, ◌∙◌, subst, arith, inl, inr, append_assoc, nat_lt}
use Rattle.std.proofs.lemmas.List.{append-nil}
use Rattle.std.proofs.lemmas.Bool.{ltb-true}
use Rattle.std.proofs.lemmas.Bool.Decides.{eqb_tells}
use Rattle.std.proofs.lemmas.Option.{slice_get_cases}
use Rattle.rw_objects.specs.Space.{Space, reply_of}
use Rattle.rw_objects.specs.Code.{Code, CodeLaws, TakesReply}
use Rattle.rw_objects.specs.Memory.{Memory}
use Rattle.rw_objects.specs.declared.entry.Entry.{Entry}
use Rattle.rw_objects.specs.declared.next.Next.{Next}
use Rattle.rw_objects.specs.declared.next.Next.TheVariants as next
use Rattle.event_core.specs.declared.pick.Pick.{Pick}
use Rattle.event_core.specs.declared.pick.Input.{Input}
use Rattle.event_core.specs.declared.pick.Input.TheVariants.{Go, TimeOut}
use Rattle.event_core.specs.declared.step.PickStep.{PickStep}
use Rattle.event_core.specs.declared.step.PickStep.TheVariants as step
use Rattle.event_core.specs.declared.step.StepFault.{StepFault}
use Rattle.event_core.specs.Threads.{ThreadAt, thread_after_local, thread_after_reply}
use Rattle.event_core.specs.declared.step.StepFault.TheVariants as fault
use Rattle.event_core.specs.PickStep.{step_of_next, is_enabled}
use Rattle.event_core.specs.World.{WorldAt, step_of_thread, step_of_pick, world_after, world_after_step, has_steps_left}
use Rattle.event_core.specs.Run.{world_run, IsRun, entries}
use Rattle.event_core.proofs.Steps.{thread_local}
use Rattle.event_core.proofs.SoundSteps.{get_change}
use Rattle.wasm_types.specs.declared.sizes.TheConstants.{MOST_STEPS}
use Rattle.replay_laws.specs.Turns.{pick_of}
use Rattle.replay_laws.proofs.Orders.{world_joined}
use Rattle.recorder.specs.Picks.{is_taken, step_taken, picks_taken}
use Rattle.recorder.specs.Recorded.{list_at, IsNoted}
use Rattle.event_core.proofs.Places.{length_run}
use Rattle.recorder.proofs.Rest.{taken_is_run, entries_step, world_step}
use Rattle.replay_laws.proofs.JoinedRuns.{run_joined, entries_joined}
use Rattle.recorder.specs.Rounds.{AllGo, StepsWithin, NoneGoes, GoesBy}

first : (b c : Bool) → (b && c) ≡ true → b ≡ true
first true c h = refl
first false c h = h

go_joined : (ps qs : List Pick) → AllGo ps → AllGo qs → AllGo (ps ++ qs)
go_joined [] qs a b = b
go_joined (p ∷ ps) qs a b = (a.0, go_joined ps qs a.1 b)

module _ {Op Reply Value Fixed : Type 0} (space : Space Op Reply Value Fixed) where
  event_takes : (m : Memory Value Fixed) (n : Next Op) (input : Input) (op : Op) → step_of_next space m n input ≡ step.Event op → TakesReply n
  event_takes m (next.Halted outcome) input op h = absurd (cc)
  event_takes m next.Local Go op h = absurd (cc)
  event_takes m next.Local TimeOut op h = absurd (cc)
  event_takes m (next.Ask asked) input op h = tt
  event_takes m (next.Asleep resume out) input op h = tt

module _ {State Op Reply Value Fixed : Type 0} (space : Space Op Reply Value Fixed) (code : Code State Op Reply Fixed) where
  event_in : (m : Memory Value Fixed) (n : Next Op) (input : Input) (op : Op) (f : StepFault) (b : Bool) → cond b (step_of_next space m n input) (step.Refused f) ≡ step.Event op → TakesReply n
  event_in m n input op f true e = event_takes space m n input op e
  event_in m n input op f false e = absurd (cc)

  pub event_thread : (m : Memory Value Fixed) (o : Option (ThreadAt State)) (input : Input) (op : Op) → step_of_thread space code m o input ≡ step.Event op → (t : ThreadAt State) × (o ≡ Some t) × TakesReply (code.next t.state)
  event_thread m None input op h = absurd (cc)
  event_thread m (Some t) input op h = (t, refl, event_in m (code.next t.state) input op fault.Halted (nat_lt (code.steps t.state) MOST_STEPS) h)

  left_of : (steps : ℕ) (o : Option (ThreadAt State)) (t : ThreadAt State) → o ≡ Some t → has_steps_left code steps o ≡ true → code.steps t.state < steps
  left_of steps None t e h = absurd (cc)
  left_of steps (Some x) t e h = let same : x ≡ t = cc in subst (λ (y : ThreadAt State). code.steps y.state < steps) same (ltb-true _ _ h)

  module _ (rules : CodeLaws space code) (steps : ℕ) where
    within_step : (w : WorldAt State Value Fixed) (p : Pick) (s : PickStep Op) → step_of_pick space code w p ≡ s → has_steps_left code steps (slice_get w.threads p.thread) ≡ true
        → StepsWithin space code steps w → StepsWithin space code steps (world_after_step space code w p.thread s)
    within_step w p (step.Refused f) e left h t u is = h t u is
    within_step w p step.Local e left h t u is =
        let at = thread_local space code w.memory (slice_get w.threads p.thread) p.input e in
        let low = left_of steps (slice_get w.threads p.thread) at.0 at.1 left in
        elim (get_change (thread_after_local code) w.threads p.thread t at.0 u at.1 is) [
          | inl q ↦ let k = ap (λ (y : ThreadAt State). code.steps y.state) q in let m = rules.local_steps at.0.state at.2.next in omega (arith, k, m, low)
          | inr q ↦ h t u q
        ]
    within_step w p (step.Event op) e left h t u is =
        let at = event_thread w.memory (slice_get w.threads p.thread) p.input op e in
        let low = left_of steps (slice_get w.threads p.thread) at.0 at.1 left in
        let reply = reply_of space w.memory.fixed w.memory.values op in
        elim (get_change (thread_after_reply code reply) w.threads p.thread t at.0 u at.1 is) [
          | inl q ↦ let k = ap (λ (y : ThreadAt State). code.steps y.state) q in let m = rules.take_steps at.0.state reply at.2 in omega (arith, k, m, low)
          | inr q ↦ h t u q
        ]

    within_taken : (w v : WorldAt State Value Fixed) (p : Pick) (b : Bool) → is_taken space code steps w p ≡ b → v ≡ cond b (world_after space code w p) w → StepsWithin space code steps w → StepsWithin space code steps v
    within_taken w v p true e is h = subst (StepsWithin space code steps) (sym is) (within_step w p (step_of_pick space code w p) refl (first _ _ e) h)
    within_taken w v p false e is h = subst (StepsWithin space code steps) (sym is) h

    taken_goes : (w v : WorldAt State Value Fixed) (p : Pick) (b : Bool) → p.input ≡ Go → AllGo (cond b (p ∷ picks_taken space code steps v []) [])
    taken_goes w v p true e = (e, tt)
    taken_goes w v p false e = tt

    -- one thread went on
    goes_once : (w v : WorldAt State Value Fixed) (p : Pick) (before after : List (List Entry)) → p.input ≡ Go
        → v ≡ cond (is_taken space code steps w p) (world_after space code w p) w → IsNoted before after p.thread (step_taken space code steps w p) → length before ≡ length w.threads
        → GoesBy space code steps w v before after
    goes_once w v p before after go moved noted size =
        let b = is_taken space code steps w p in
        let leads : world_run space code w (picks_taken space code steps w (p ∷ [])) ≡ v = world_step space code steps w v p [] b refl moved in
        let kept : length v.threads ≡ length w.threads = ap (λ (z : WorldAt State Value Fixed). length z.threads) (sym leads) ∙ length_run space code w (picks_taken space code steps w (p ∷ [])) in
        record {
          picks = picks_taken space code steps w (p ∷ []);
          run = taken_is_run space code steps w (p ∷ []);
          world = leads;
          all_go = taken_goes w (world_after space code w p) p b go;
          within = within_taken w v p b refl moved;
          logged = λ t l.
              noted.logs t (omega (arith, l, size))
              ∙ ap (λ z. list_at before t ++ z) (sym (append-nil _) ∙ sym (entries_step space code steps w v p [] t b refl moved));
          lists = noted.len ∙ (size ∙ sym kept);
          size = kept;
        }

    pub goes_nowhere : (w v : WorldAt State Value Fixed) (before after : List (List Entry)) → v ≡ w → after ≡ before → length before ≡ length w.threads → GoesBy space code steps w v before after
    goes_nowhere w v before after e same size = record {
      picks = [];
      run = tt;
      world = sym e;
      all_go = tt;
      within = λ h. subst (StepsWithin space code steps) (sym e) h;
      logged = λ t l. ap (λ z. list_at z t) same ∙ sym (append-nil _);
      lists = ap length same ∙ (size ∙ ap (λ z. length z.threads) (sym e));
      size = ap (λ z. length z.threads) e;
    }

    -- one thread was tried
    pub goes_tried : (w v : WorldAt State Value Fixed) (p : Pick) (before after : List (List Entry)) (made : Bool) → p.input ≡ Go
        → v ≡ cond (is_taken space code steps w p) (world_after space code w p) w → made ≡ is_taken space code steps w p → (made ≡ true → IsNoted before after p.thread (step_taken space code steps w p)) → (made ≡ false → after ≡ before)
        → length before ≡ length w.threads → GoesBy space code steps w v before after
    goes_tried w v p before after true go moved is noted kept size = goes_once w v p before after go moved (noted refl) size
    goes_tried w v p before after false go moved is noted kept size = goes_nowhere w v before after (moved ∙ ap (λ b. cond b (world_after space code w p) w) (sym is)) (kept refl) size

    pub goes_on : (w u v : WorldAt State Value Fixed) (a b c : List (List Entry)) → GoesBy space code steps w u a b → GoesBy space code steps u v b c → GoesBy space code steps w v a c
    goes_on w u v a b c x y =
        let next_run : IsRun space code (world_run space code w x.picks) y.picks = subst (λ z. IsRun space code z y.picks) (sym x.world) y.run in
        record {
          picks = x.picks ++ y.picks;
          run = run_joined space code w x.picks y.picks x.run next_run;
          world = world_joined space code w x.picks y.picks ∙ (ap (λ z. world_run space code z y.picks) x.world ∙ y.world);
          all_go = go_joined x.picks y.picks x.all_go y.all_go;
          within = λ h. y.within (x.within h);
          logged = λ t l.
              y.logged t (omega (arith, l, x.size))
              ∙ (ap (λ z. z ++ entries space code u y.picks t) (x.logged t l)
              ∙ (append_assoc (list_at a t) (entries space code w x.picks t) (entries space code u y.picks t)
              ∙ ap (λ z. list_at a t ++ z) (ap (λ z. entries space code w x.picks t ++ entries space code z y.picks t) (sym x.world) ∙ sym (entries_joined space code w x.picks y.picks t))));
          lists = y.lists;
          size = y.size ∙ x.size;
        }

    -- past the last thread none goes
    pub none_past : (w : WorldAt State Value Fixed) (t : ℕ) → slice_get w.threads t ≡ None → is_taken space code steps w (pick_of t Go) ≡ false
    none_past w t e = ap (λ o. has_steps_left code steps o && is_enabled (step_of_pick space code w (pick_of t Go))) e

    pub none_more : (w v : WorldAt State Value Fixed) (t : ℕ) (made went : Bool) → (went ≡ false → v ≡ w) → went ≡ is_taken space code steps w (pick_of t Go)
        → (made ≡ false → (x : ℕ) → x < t → is_taken space code steps w (pick_of x Go) ≡ false) → (made || went) ≡ false → (x : ℕ) → x < t + 1 → is_taken space code steps v (pick_of x Go) ≡ false
    none_more w v t true went same is old e x l = absurd (cc)
    none_more w v t false true same is old e x l = absurd (cc)
    none_more w v t false false same is old e x l =
        subst (λ (z : WorldAt State Value Fixed). is_taken space code steps z (pick_of x Go) ≡ false) (sym (same refl))
        (elim (eqb_tells x t) [
          | inl p ↦ ap (λ y. is_taken space code steps w (pick_of y Go)) p.1 ∙ sym is
          | inr p ↦ old refl x (let d = p.1 in omega arith)
        ])

    pub none_goes : (w : WorldAt State Value Fixed) (n : ℕ) → n ≡ length w.threads → ((x : ℕ) → x < n → is_taken space code steps w (pick_of x Go) ≡ false) → NoneGoes space code steps w
    none_goes w n e h t =
        elim (slice_get_cases w.threads t).1 [
          | inl q ↦ h t (omega (arith, e, q.1))
          | inr q ↦ none_past w t q.1
        ]
