-- The steps of a thread over its memory are picks of its world.
use Rattle.std.proofs.Common.{◌≡◌, ℕ, zero, suc, ◌+◌, ◌==◌, ◌<◌, ◌≤◌, true, cond, Option, List, [], ◌∷◌, ◌++◌, length, get_or, slice_set, None, Some, slice_get, refl, sym, ◌∙◌, ap, subst, arith, inl, inr}
use Rattle.std.proofs.lemmas.Bool.Decides.{eqb_tells}
use Rattle.std.proofs.lemmas.List.{length-set, get_or-set_same}
use Rattle.std.proofs.lemmas.Option.{same_Some}
use Rattle.std.specs.Prelude.{option_and_then, option_map}
use Rattle.rw_objects.specs.declared.entry.Entry.{Entry}
use Rattle.rw_objects.specs.declared.next.Next.{Next}
use Rattle.rw_objects.specs.declared.next.Next.TheVariants as next
use Rattle.rw_objects.specs.Alone.{AloneAt, alone_with, after_next, Goes, IsSoundAlone}
use Rattle.rw_objects.specs.Code.{Code, CodeLaws}
use Rattle.rw_objects.specs.Memory.{Memory, memory_after, entry_of}
use Rattle.rw_objects.specs.Space.{Space, SpaceLaws, reply_of}
use Rattle.rw_objects.proofs.Alone.{asked, taken, goes_steps}
use Rattle.event_core.specs.declared.pick.Pick.{Pick}
use Rattle.event_core.specs.declared.pick.Input.TheVariants.{Go}
use Rattle.event_core.specs.declared.step.PickStep.{PickStep}
use Rattle.event_core.specs.declared.step.PickStep.TheVariants as step
use Rattle.event_core.specs.declared.thread.Thread.{Thread}
use Rattle.event_core.specs.LocalRun.{go_of, goes}
use Rattle.event_core.specs.PickStep.{step_of_next, is_enabled}
use Rattle.event_core.specs.Run.{entries, entries_of_step, world_run, IsRun}
use Rattle.event_core.specs.Sound.{IsSound}
use Rattle.event_core.specs.ThreadRun.{put_all, thread_behind, RanAt, IsThreadRun, ThreadsRunAlone}
use Rattle.event_core.specs.Threads.{ThreadAt, ThreadIs, thread_of, threads_of, change_at, all_steps, thread_after_local, thread_after_reply}
use Rattle.event_core.specs.World.{WorldAt, step_of_pick, world_after, world_after_step}
use Rattle.event_core.proofs.LocalRuns.{get_same, nothing_changed, changed_twice}
use Rattle.event_core.proofs.SoundSteps.{local_kept, event_kept, steps_most}
use Rattle.event_core.proofs.Threads.{step_some, seen_at, map_set}

changed_alike : {A : Type 0} (f g : A → A) (xs : List A) (i : ℕ) (a : A) → slice_get xs i ≡ Some a → f a ≡ g a → change_at xs i f ≡ change_at xs i g
changed_alike f g [] i a e h = refl
changed_alike f g (y ∷ ys) zero a e h = let same : y ≡ a = cc in ap (λ z. z ∷ ys) (ap f same ∙ h ∙ ap g (sym same))
changed_alike f g (y ∷ ys) (suc i) a e h = ap (λ l. y ∷ l) (changed_alike f g ys i a e h)

-- entries in two parts
put_both : {Seen : Type 0} (add : Seen → Entry → Option Seen) (s : Seen) (es fs : List Entry) → put_all add s (es ++ fs) ≡ option_and_then (λ u. put_all add u fs) (put_all add s es)
put_both add s [] fs = refl
put_both {Seen = Seen} add s (e ∷ es) fs = by (λ u. put_both add u es fs) (add s e)
  where
    by : ((u : Seen) → put_all add u (es ++ fs) ≡ option_and_then (λ x. put_all add x fs) (put_all add u es))
        → (o : Option Seen) → option_and_then (λ u. put_all add u (es ++ fs)) o ≡ option_and_then (λ u. put_all add u fs) (option_and_then (λ u. put_all add u es) o)
    by rest None = refl
    by rest (Some u) = rest u

-- the entry of a thread's own event
own_entry : (t : ℕ) (e : Entry) → cond (t == t) (e ∷ []) [] ≡ e ∷ []
own_entry t e =
    elim (eqb_tells t t) [
      | inl p ↦ ap (λ b. cond b (e ∷ []) []) p.0
      | inr p ↦ absurd (p.1 refl)
    ]

module _ {State Op Reply Value Fixed Seen : Type 0} (space : Space Op Reply Value Fixed) (code : Code State Op Reply Fixed) (add : Seen → Entry → Option Seen) where
  -- ---- events are counted from any number

  abbrev later : ℕ → AloneAt State Value Fixed Seen → AloneAt State Value Fixed Seen
  later k a = alone_with a.thread a.memory a.log (k + a.events)

  later_step : (k : ℕ) (a b : AloneAt State Value Fixed Seen) (n : Next Op) → after_next space code add a n ≡ Some b → after_next space code add (later k a) n ≡ Some (later k b)
  later_step k a b next.Local h = ap (λ x. Some (later k x)) (same_Some (alone_with (code.local a.thread) a.memory a.log a.events) b h)
  later_step k a b (next.Ask op) h =
      let t = taken space code add a b op h in
      let one : AloneAt State Value Fixed Seen = asked space code add a op t.log in
      let more : k + a.events + 1 ≡ k + (a.events + 1) = omega arith in
      ap (option_map (asked space code add (later k a) op)) t.put ∙ ap (λ n. Some (alone_with one.thread one.memory one.log n)) more ∙ ap (λ x. Some (later k x)) t.is
  later_step k a b (next.Asleep resume out) h = absurd cc
  later_step k a b (next.Halted outcome) h = absurd cc

  goes_later : (k n : ℕ) (a b : AloneAt State Value Fixed Seen) → Goes space code add n a b → Goes space code add n (later k a) (later k b)
  goes_later k zero a b g = ap (later k) g
  goes_later k (suc n) a b g = (later k g.0, later_step k a g.0 (code.next a.thread) g.1, goes_later k n g.0 b g.2)

  -- ---- picks

  abbrev stands : AloneAt State Value Fixed Seen → ThreadAt State → ThreadAt State
  stands b x = record { state = b.thread; places = b.events }

  -- the picks are a run, which leads there
  pub record Ran (t n : ℕ) (w : WorldAt State Value Fixed) (log : Seen) (b : AloneAt State Value Fixed Seen) : Type 0 where
    pub run : IsRun space code w (goes t n)
    pub leads : world_run space code w (goes t n) ≡ record { threads = change_at w.threads t (stands b); memory = b.memory }
    pub logged : put_all add log (entries space code w (goes t n) t) ≡ Some b.log

  -- one pick more in front
  ran_more : (t n : ℕ) (w v : WorldAt State Value Fixed) (log new : Seen) (b : AloneAt State Value Fixed Seen) (s : PickStep Op) (f : ThreadAt State → ThreadAt State)
      → step_of_pick space code w (go_of t) ≡ s → is_enabled s ≡ true → world_after_step space code w t s ≡ v → v.threads ≡ change_at w.threads t f → put_all add log (entries_of_step space w.memory t t s) ≡ Some new
      → Ran t n v new b → Ran t (suc n) w log b
  ran_more t n w v log new b s f q on made threads put r =
      let after : world_after space code w (go_of t) ≡ v = ap (world_after_step space code w t) q ∙ made in
      let here : entries_of_step space w.memory t t (step_of_pick space code w (go_of t)) ≡ entries_of_step space w.memory t t s = ap (entries_of_step space w.memory t t) q in
      record {
        run = (ap is_enabled q ∙ on, subst (λ x. IsRun space code x (goes t n)) (sym after) r.run);
        leads =
            ap (λ x. world_run space code x (goes t n)) after ∙ r.leads
            ∙ ap (λ ts. record { threads = change_at ts t (stands b); memory = b.memory }) threads
            ∙ ap (λ ts. record { threads = ts; memory = b.memory }) (changed_twice f (stands b) w.threads t);
        logged =
            ap (λ x. put_all add log (entries_of_step space w.memory t t (step_of_pick space code w (go_of t)) ++ entries space code x (goes t n) t)) after
            ∙ ap (λ l. put_all add log (l ++ entries space code v (goes t n) t)) here
            ∙ put_both add log (entries_of_step space w.memory t t s) (entries space code v (goes t n) t)
            ∙ ap (option_and_then (λ x. put_all add x (entries space code v (goes t n) t))) put ∙ r.logged;
      }

  module _ (laws : CodeLaws space code) where
    pub ran : (t n : ℕ) (w : WorldAt State Value Fixed) (x : ThreadAt State) (log : Seen) (b : AloneAt State Value Fixed Seen) → slice_get w.threads t ≡ Some x
        → Goes space code add n (alone_with x.state w.memory log x.places) b → code.steps b.thread ≤ 1000000000 → Ran t n w log b
    ran t zero w x log b is g most = record {
      run = tt;
      leads =
          ap (λ ts. record { threads = ts; memory = w.memory }) (sym (nothing_changed (stands b) w.threads t x is (ap (λ (a : AloneAt State Value Fixed Seen). record { state = a.thread; places = a.events }) (sym g))))
          ∙ ap (λ (a : AloneAt State Value Fixed Seen). record { threads = change_at w.threads t (stands b); memory = a.memory }) g;
      logged = ap (λ (a : AloneAt State Value Fixed Seen). Some a.log) g;
    }
    ran t (suc n) w x log b is g most =
        let counted = goes_steps space code add laws (suc n) (alone_with x.state w.memory log x.places) b g in
        by (λ v new y here more. ran t n v y new b here more most) (code.next x.state) refl g.1 (omega (arith, counted, most))
      where
        by : ((v : WorldAt State Value Fixed) (new : Seen) (y : ThreadAt State) → slice_get v.threads t ≡ Some y → Goes space code add n (alone_with y.state v.memory new y.places) b → Ran t n v new b)
            → (m : Next Op) → code.next x.state ≡ m → after_next space code add (alone_with x.state w.memory log x.places) m ≡ Some g.0 → code.steps x.state < 1000000000 → Ran t (suc n) w log b
        by rest next.Local e h few =
            let v : WorldAt State Value Fixed = record { threads = change_at w.threads t (thread_after_local code); memory = w.memory } in
            let q : step_of_pick space code w (go_of t) ≡ step.Local = step_some space code w (go_of t) x is few ∙ ap (λ n. step_of_next space w.memory n Go) e in
            let same = same_Some (alone_with (code.local x.state) w.memory log x.places) g.0 h in
            ran_more t n w v log log b step.Local (thread_after_local code) q refl refl refl refl
            (rest v log (thread_after_local code x) (get_same (thread_after_local code) w.threads t x is) (subst (λ a. Goes space code add n a b) (sym same) g.2))
        by rest (next.Ask op) e h few =
            let reply = reply_of space w.memory.fixed w.memory.values op in
            let f = thread_after_reply code reply in
            let v : WorldAt State Value Fixed = record { threads = change_at w.threads t f; memory = memory_after space w.memory op } in
            let k = taken space code add (alone_with x.state w.memory log x.places) g.0 op h in
            let q : step_of_pick space code w (go_of t) ≡ step.Event op = step_some space code w (go_of t) x is few ∙ ap (λ n. step_of_next space w.memory n Go) e in
            ran_more t n w v log k.log b (step.Event op) f q refl refl refl (ap (put_all add log) (own_entry t (entry_of space w.memory op)) ∙ ap (option_and_then Some) k.put)
            (rest v k.log (f x) (get_same f w.threads t x is) (subst (λ a. Goes space code add n a b) (sym k.is) g.2))
        by rest (next.Asleep resume out) e h few = absurd cc
        by rest (next.Halted outcome) e h few = absurd cc

    pub threads_run_alone : ThreadsRunAlone space code add
    threads_run_alone t n w x log b is g most = let k = ran t n w x log b is g most in record { run = k.run; leads = sym k.leads; log = k.logged }

    -- what a run of the list's thread makes of the world
    pub thread_run : (t n : ℕ) (w : WorldAt State Value Fixed) (us : List (ThreadAt State)) (after : Memory Value Fixed) (log new : Seen) (x : ThreadAt State) → slice_get w.threads t ≡ Some x
        → RanAt space code add t n w.threads us w.memory after log new → ((y : ThreadAt State) → slice_get us t ≡ Some y → code.steps y.state ≤ 1000000000) → IsThreadRun space code add t n w (record { threads = us; memory = after }) log new
    thread_run t n w us after log new x is r most =
        let b = alone_with r.state after new (x.places + r.events) in
        let there : slice_get us t ≡ Some (thread_behind r.state r.events x) = ap (λ ts. slice_get ts t) r.leads ∙ get_same (thread_behind r.state r.events) w.threads t x is in
        let z : x.places + 0 ≡ x.places = omega arith in
        let g : Goes space code add n (alone_with x.state w.memory log x.places) b =
        subst (λ k. Goes space code add n (alone_with x.state w.memory log k) b) z (goes_later x.places n (alone_with x.state w.memory log 0) (alone_with r.state after new r.events) (r.goes x is)) in
        let k = ran t n w x log b is g (most (thread_behind r.state r.events x) there) in
        record {
          run = k.run;
          leads = ap (λ ts. record { threads = ts; memory = after }) (r.leads ∙ changed_alike (thread_behind r.state r.events) (stands b) w.threads t x is refl) ∙ sym k.leads;
          log = k.logged;
        }

  -- ---- the thread of the list

  module _ {M : Type 0} (state : M → State) where
    pub ran_at : (ts : List (Thread M)) (at n events : ℕ) (x y : Thread M) (before after : Memory Value Fixed) (log new : Seen) → at < length ts → x ≡ get_or ts at x → y.places ≡ x.places + events
        → Goes space code add n (alone_with (state x.machine) before log 0) (alone_with (state y.machine) after new events)
        → RanAt space code add at n (threads_of state ts) (threads_of state (slice_set ts at y)) before after log new
    ran_at ts at n events x y before after log new l is p g = record {
      state = state y.machine;
      events = events;
      goes = λ t e.
          let same : thread_of state x ≡ t = same_Some _ _ (sym (seen_at state ts at x l is) ∙ e) in
          subst (λ (u : ThreadAt State). Goes space code add n (alone_with u.state before log 0) (alone_with (state y.machine) after new events)) same g;
      leads = map_set (thread_of state) (thread_behind (state y.machine) events) ts at x y l is (ap (λ k. record { state = state y.machine; places = k }) p);
    }

-- what holds of the thread that was written
pub thread_set : {M State : Type 0} (state : M → State) (P : State → Type 0) (ts : List (Thread M)) (at : ℕ) (y : Thread M) → at < length ts → P (state y.machine) → ThreadIs state (slice_set ts at y) at (λ t. P t.state)
thread_set {State = State} state P ts at y l h t e =
    let there : at < length (slice_set ts at y) = rw length-set l in
    let same : thread_of state y ≡ t = same_Some _ _ (sym (seen_at state (slice_set ts at y) at y there (sym (get_or-set_same ts at y y l))) ∙ e) in
    subst (λ (u : ThreadAt State). P u.state) same h

module _ {State Op Reply Value Fixed : Type 0} (space : Space Op Reply Value Fixed) (code : Code State Op Reply Fixed) where
  -- a thread of a sound world may run over its memory
  pub sound_alone : (ts : List (ThreadAt State)) (m : Memory Value Fixed) (at : ℕ) (t : ThreadAt State) → slice_get ts at ≡ Some t → IsSound code ts m → IsSoundAlone code t.state m
  sound_alone ts m at t is k =
      let h = k.each at t is in
      record {
        fixed = h.fixed;
        is_suited = h.is_suited;
        others = all_steps code ts;
        few = let l = steps_most space code ts m k in omega (arith, l);
        versions = λ o. let l = k.versions o in omega (arith, l);
        reads = λ o. let l = k.reads o in omega (arith, l);
      }

  -- a run leaves a world sound
  pub run_kept : SpaceLaws space → CodeLaws space code → (w : WorldAt State Value Fixed) (ps : List Pick) → IsRun space code w ps → IsSound code w.threads w.memory → IsSound code (world_run space code w ps).threads (world_run space code w ps).memory
  run_kept laws rules w [] r k = k
  run_kept laws rules w (p ∷ ps) r k = run_kept laws rules (world_after space code w p) ps r.1 (by (step_of_pick space code w p) refl r.0)
    where
      by : (s : PickStep Op) → step_of_pick space code w p ≡ s → is_enabled s ≡ true
          → IsSound code (world_after_step space code w p.thread s).threads (world_after_step space code w p.thread s).memory
      by (step.Refused f) q on = absurd cc
      by step.Local q on = local_kept space code rules w p q k
      by (step.Event op) q on = event_kept space code laws rules w p op (reply_of space w.memory.fixed w.memory.values op) q k
