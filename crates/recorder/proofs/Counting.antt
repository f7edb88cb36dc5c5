-- A pick that is taken leaves its thread one step further.
use Rattle.std.proofs.Common.{◌≡◌, ℕ, zero, suc, ◌+◌, ◌<◌, ◌&&◌, Bool, true, false, cond, List, [], ◌∷◌, replicate, Option, Some, None, slice_get, refl, sym, ap, ◌∙◌, arith, nat_lt}
use Rattle.std.proofs.lemmas.Bool.{ltb-true}
use Rattle.rw_objects.specs.Space.{Space, reply_of}
use Rattle.rw_objects.specs.Code.{Code, CodeLaws, TakesReply}
use Rattle.rw_objects.specs.Memory.{Memory}
use Rattle.rw_objects.specs.declared.next.Next.{Next}
use Rattle.rw_objects.specs.declared.next.Next.TheVariants as next
use Rattle.event_core.specs.declared.pick.Pick.{Pick}
use Rattle.event_core.specs.declared.pick.Input.{Input}
use Rattle.event_core.specs.declared.pick.Input.TheVariants.{Go, TimeOut}
use Rattle.event_core.specs.declared.step.PickStep.{PickStep}
use Rattle.event_core.specs.declared.step.PickStep.TheVariants as step
use Rattle.event_core.specs.declared.step.StepFault.TheVariants as fault
use Rattle.event_core.specs.PickStep.{step_of_next, is_enabled}
use Rattle.event_core.specs.Threads.{ThreadAt, change_at, thread_after_local, thread_after_reply}
use Rattle.event_core.specs.World.{WorldAt, step_of_thread, step_of_pick, world_after, world_after_step, has_steps_left}
use Rattle.event_core.specs.Run.{world_run}
use Rattle.event_core.proofs.LocalRuns.{get_same}
use Rattle.event_core.proofs.Steps.{thread_local}
use Rattle.recorder.specs.Picks.{is_taken, picks_taken, picks_passed}
use Rattle.recorder.proofs.Rest.{none_taken}
use Rattle.recorder.specs.Making.{steps_at}

first_of_both : (b c : Bool) → (b && c) ≡ true → b ≡ true
first_of_both true c h = refl
first_of_both false c h = absurd (cc)

second_of_both : (b c : Bool) → (b && c) ≡ true → c ≡ true
second_of_both true c h = h
second_of_both false c h = absurd (cc)

module _ {State Op Reply Value Fixed : Type 0} (space : Space Op Reply Value Fixed) (code : Code State Op Reply Fixed) where
  takes_by_next : (m : Memory Value Fixed) (n : Next Op) (input : Input) (op : Op) → step_of_next space m n input ≡ step.Event op → TakesReply n
  takes_by_next m (next.Halted outcome) input op h = absurd (cc)
  takes_by_next m next.Local Go op h = absurd (cc)
  takes_by_next m next.Local TimeOut op h = absurd (cc)
  takes_by_next m (next.Ask asked) input op h = tt
  takes_by_next m (next.Asleep resume out) input op h = tt

  takes_if : (b : Bool) (m : Memory Value Fixed) (t : ThreadAt State) (input : Input) (op : Op) → cond b (step_of_next space m (code.next t.state) input) (step.Refused fault.Halted) ≡ step.Event op → TakesReply (code.next t.state)
  takes_if true m t input op h = takes_by_next m (code.next t.state) input op h
  takes_if false m t input op h = absurd (cc)

  -- the thread of an event takes its reply
  event_of : (m : Memory Value Fixed) (o : Option (ThreadAt State)) (input : Input) (op : Op) → step_of_thread space code m o input ≡ step.Event op → (t : ThreadAt State) × (o ≡ Some t) × TakesReply (code.next t.state)
  event_of m None input op h = absurd (cc)
  event_of m (Some t) input op h = (t, refl, takes_if (nat_lt (code.steps t.state) 1000000000) m t input op h)

  -- where a thread stands behind its own step
  counted_at : (f : ThreadAt State → ThreadAt State) (ts : List (ThreadAt State)) (i : ℕ) (t : ThreadAt State) → slice_get ts i ≡ Some t → code.steps (f t).state ≡ code.steps t.state + 1 → steps_at code (slice_get (change_at ts i f) i) ≡ steps_at code (slice_get ts i) + 1
  counted_at f ts i t is more = ap (steps_at code) (get_same f ts i t is) ∙ more ∙ ap (λ o. steps_at code o + 1) (sym is)

  module _ (rules : CodeLaws space code) where
    counted_by : (w : WorldAt State Value Fixed) (p : Pick) (s : PickStep Op) → step_of_pick space code w p ≡ s → is_enabled s ≡ true → steps_at code (slice_get (world_after_step space code w p.thread s).threads p.thread) ≡ steps_at code (slice_get w.threads p.thread) + 1
    counted_by w p (step.Refused f) q on = absurd (cc)
    counted_by w p step.Local q on =
        let k = thread_local space code w.memory (slice_get w.threads p.thread) p.input q in
        counted_at (thread_after_local code) w.threads p.thread k.0 k.1 (rules.local_steps k.0.state k.2.next)
    counted_by w p (step.Event op) q on =
        let k = event_of w.memory (slice_get w.threads p.thread) p.input op q in
        let reply = reply_of space w.memory.fixed w.memory.values op in
        counted_at (thread_after_reply code reply) w.threads p.thread k.0 k.1 (rules.take_steps k.0.state reply k.2)

    -- one step more
    pub taken_counts : (steps : ℕ) (w : WorldAt State Value Fixed) (p : Pick) → is_taken space code steps w p ≡ true → steps_at code (slice_get (world_after space code w p).threads p.thread) ≡ steps_at code (slice_get w.threads p.thread) + 1
    taken_counts steps w p h = counted_by w p (step_of_pick space code w p) refl (second_of_both _ _ h)

  left_of : (steps : ℕ) (o : Option (ThreadAt State)) → has_steps_left code steps o ≡ true → steps_at code o < steps
  left_of steps None h = absurd (cc)
  left_of steps (Some t) h = ltb-true _ _ h

  -- there was one left
  pub taken_few : (steps : ℕ) (w : WorldAt State Value Fixed) (p : Pick) → is_taken space code steps w p ≡ true → steps_at code (slice_get w.threads p.thread) < steps
  taken_few steps w p h = left_of steps (slice_get w.threads p.thread) (first_of_both _ _ h)

  -- ---- picks all of which are taken

  none_by_first : (steps : ℕ) (w : WorldAt State Value Fixed) (p : Pick) (ps : List Pick) (b : Bool) → is_taken space code steps w p ≡ b → picks_passed space code steps w (p ∷ ps) ≡ 0
      → (b ≡ true) × (picks_passed space code steps (world_after space code w p) ps ≡ 0)
  none_by_first steps w p ps true e h = (refl, sym (ap (λ b. cond b (picks_passed space code steps (world_after space code w p) ps) (picks_passed space code steps w ps + 1)) e) ∙ h)
  none_by_first steps w p ps false e h =
      let k : picks_passed space code steps w ps + 1 ≡ 0 = sym (ap (λ b. cond b (picks_passed space code steps (world_after space code w p) ps) (picks_passed space code steps w ps + 1)) e) ∙ h in
      absurd (omega (arith, k))

  -- where none is passed over, all are taken
  pub all_taken : (steps : ℕ) (w : WorldAt State Value Fixed) (ps : List Pick) → picks_passed space code steps w ps ≡ 0 → picks_taken space code steps w ps ≡ ps
  all_taken steps w [] h = refl
  all_taken steps w (p ∷ ps) h =
      let k = none_by_first steps w p ps (is_taken space code steps w p) refl h in
      ap (λ b. cond b (p ∷ picks_taken space code steps (world_after space code w p) ps) (picks_taken space code steps w ps)) k.0 ∙ ap (λ l. p ∷ l) (all_taken steps (world_after space code w p) ps k.1)

  taken_by_first : (steps : ℕ) (w : WorldAt State Value Fixed) (p : Pick) (n : ℕ) (b : Bool) → is_taken space code steps w p ≡ b → picks_taken space code steps w (replicate (suc n) p) ≡ replicate (suc n) p → (b ≡ true) × (picks_taken space code steps (world_after space code w p) (replicate n p) ≡ replicate n p)
  taken_by_first steps w p n true e h =
      let k : p ∷ picks_taken space code steps (world_after space code w p) (replicate n p) ≡ p ∷ replicate n p = sym (ap (λ b. cond b (p ∷ picks_taken space code steps (world_after space code w p) (replicate n p)) (picks_taken space code steps w (replicate n p))) e) ∙ h in
      (refl, cc)
  taken_by_first steps w p n false e h =
      let k : [] ≡ p ∷ replicate n p = sym (none_taken space code steps w p (suc n) e) ∙ h in
      absurd (cc)

  -- the first of equal picks that are all taken, and the others
  pub first_taken : (steps : ℕ) (w : WorldAt State Value Fixed) (p : Pick) (n : ℕ) → picks_taken space code steps w (replicate (suc n) p) ≡ replicate (suc n) p → (is_taken space code steps w p ≡ true) × (picks_taken space code steps (world_after space code w p) (replicate n p) ≡ replicate n p)
  first_taken steps w p n h = taken_by_first steps w p n (is_taken space code steps w p) refl h

  -- so many steps more
  pub stretch_counts : CodeLaws space code → (steps : ℕ) (p : Pick) (n : ℕ) (w : WorldAt State Value Fixed) → picks_taken space code steps w (replicate n p) ≡ replicate n p
      → steps_at code (slice_get (world_run space code w (replicate n p)).threads p.thread) ≡ steps_at code (slice_get w.threads p.thread) + n
  stretch_counts rules steps p zero w h = omega arith
  stretch_counts rules steps p (suc n) w h =
      let k = first_taken steps w p n h in
      let one = taken_counts rules steps w p k.0 in
      let rest = stretch_counts rules steps p n (world_after space code w p) k.1 in
      rest ∙ omega (arith, one)
