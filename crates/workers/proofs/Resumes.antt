-- Threads that workers drove apart, over the memory that their calls lead to, are the world of a run.
use Rattle.std.proofs.Common.{◌≡◌, ℕ, zero, suc, ◌+◌, ◌<◌, ◌≤◌, ◌==◌, cond, Bool, true, false, List, [], ◌∷◌, ◌++◌, length, map, Option, Some, None, slice_get, refl, sym, ap, ◌∙◌, subst, arith, inl, inr}
use Rattle.std.proofs.lemmas.List.{length-map}
use Rattle.std.proofs.lemmas.Bool.Decides.{eqb_tells}
use Rattle.std.proofs.lemmas.Option.{slice_get_cases, slice_get_within}
use Rattle.rw_objects.specs.declared.entry.Entry.{Entry}
use Rattle.rw_objects.specs.Space.{Space, SpaceLaws}
use Rattle.rw_objects.specs.Code.{Code, CodeLaws}
use Rattle.rw_objects.specs.Memory.{Memory}
use Rattle.event_core.specs.declared.pick.Pick.{Pick}
use Rattle.event_core.specs.declared.step.PickStep.{PickStep}
use Rattle.event_core.specs.declared.step.PickStep.TheVariants as step
use Rattle.event_core.specs.Threads.{ThreadAt, thread_of}
use Rattle.event_core.specs.Sound.{IsSound}
use Rattle.event_core.specs.World.{WorldAt, step_of_pick, world_after, world_after_step}
use Rattle.event_core.specs.Run.{world_run, IsRun, entries}
use Rattle.event_core.proofs.SoundSteps.{local_kept, event_kept}
use Rattle.event_core.proofs.Places.{length_run}
use Rattle.replay_laws.specs.History.{OwnStep, calls_in, calls_of_run, Leads, TimesOut, RunTimesOut, IsExecution, IsRunOf}
use Rattle.replay_laws.specs.History as history
use Rattle.replay_laws.proofs.Histories.{histories_are_runs}
use Rattle.shared_parts.specs.declared.call.Call.{Call}
use Rattle.shared_parts.specs.Calls.{IsLegalHistory, memory_after_calls, part_of, entries_in}
use Rattle.workers.specs.Ran.{AllLead}
use Rattle.workers.specs.declared.worker.Worker.{Worker}
use Rattle.workers.specs.Driving.{asked, all_asked, Went}
use Rattle.workers.specs.Work.{HasWorked}
use Rattle.workers.proofs.Asked.{part_asked, legal_asked, memory_asked, entries_asked}

no_calls_at_all : {Op Reply : Type 0} (calls : List (Call Op Reply)) → ((t : ℕ) → part_of t calls ≡ []) → calls ≡ []
no_calls_at_all [] none = refl
no_calls_at_all (c ∷ cs) none =
    elim (eqb_tells c.thread c.thread) [
      | inl p ↦ absurd (let z : c ∷ part_of c.thread cs ≡ [] = ap (λ b. cond b (c ∷ part_of c.thread cs) (part_of c.thread cs)) (sym p.0) ∙ none c.thread in cc)
      | inr p ↦ absurd (p.1 refl)
    ]

threads_same : {State : Type 0} (xs ys : List (ThreadAt State)) → length xs ≡ length ys → ((t : ℕ) (a b : ThreadAt State) → slice_get xs t ≡ Some a → slice_get ys t ≡ Some b → (a.state ≡ b.state) × (a.places ≡ b.places)) → xs ≡ ys
threads_same [] [] e h = refl
threads_same [] (y ∷ ys) e h = absurd (omega (arith, e))
threads_same (x ∷ xs) [] e h = absurd (omega (arith, e))
threads_same {State} (x ∷ xs) (y ∷ ys) e h =
    let here = h 0 x y refl refl in
    let same : x ≡ y = ap (λ s. record { state = s; places = x.places }) here.0 ∙ ap (λ p. record { state = y.state; places = p }) here.1 in
    ap (λ z. z ∷ xs) same ∙ ap (λ zs. y ∷ zs) (threads_same xs ys (omega (arith, e)) (λ t a b p q. h (suc t) a b p q))

module _ {State Op Reply Value Fixed : Type 0} (space : Space Op Reply Value Fixed) (code : Code State Op Reply Fixed) (laws : SpaceLaws space) (rules : CodeLaws space code) where
  sound_step : (w : WorldAt State Value Fixed) (p : Pick) (s : PickStep Op) → step_of_pick space code w p ≡ s → IsSound code w.threads w.memory
      → IsSound code (world_after_step space code w p.thread s).threads (world_after_step space code w p.thread s).memory
  sound_step w p (step.Refused f) e sound = sound
  sound_step w p step.Local e sound = local_kept space code rules w p e sound
  sound_step w p (step.Event op) e sound = event_kept space code laws rules w p op _ e sound

  -- where picks lead from a sound world, it is sound
  pub sound_run : (w : WorldAt State Value Fixed) (ps : List Pick) → IsSound code w.threads w.memory → IsSound code (world_run space code w ps).threads (world_run space code w ps).memory
  sound_run w [] sound = sound
  sound_run w (p ∷ ps) sound = sound_run (world_after space code w p) ps (sound_step w p (step_of_pick space code w p) refl sound)

module _ {M State Op Reply Fixed : Type 0} (code : Code State Op Reply Fixed) (state : M → State) (may : ℕ → State → Bool) where
  abbrev pub thread_in : Worker M → ThreadAt State
  thread_in w = thread_of state w.thread

  abbrev pub AreDriven : ℕ → List (Call Op Reply) → List (Worker M) → List (Worker M) → Type 0
  AreDriven b calls ss us = AllLead (HasWorked code state may) b calls ss us

  own_by : (b : ℕ) (calls : List (Call Op Reply)) (ss us : List (Worker M)) → AreDriven b calls ss us → ℕ → List (OwnStep Op Reply)
  own_by b calls [] us h t = []
  own_by b calls (s ∷ ss) [] h t = []
  own_by b calls (s ∷ ss) (u ∷ us) h zero = h.0.went.own
  own_by b calls (s ∷ ss) (u ∷ us) h (suc t) = own_by (b + 1) calls ss us h.1 t

  ends_by : State → List (Worker M) → ℕ → State
  ends_by d [] t = d
  ends_by d (u ∷ us) zero = state u.thread.machine
  ends_by d (u ∷ us) (suc t) = ends_by d us t

  pub same_number : (b : ℕ) (calls : List (Call Op Reply)) (ss us : List (Worker M)) → AreDriven b calls ss us → length us ≡ length ss
  same_number b calls [] [] h = refl
  same_number b calls [] (u ∷ us) h = absurd h
  same_number b calls (s ∷ ss) [] h = absurd h
  same_number b calls (s ∷ ss) (u ∷ us) h = omega (arith, same_number (b + 1) calls ss us h.1)

  leads_by : (d : State) (b : ℕ) (calls : List (Call Op Reply)) (ss us : List (Worker M)) (h : AreDriven b calls ss us) (t : ℕ) (th : ThreadAt State)
      → slice_get (map thread_in ss) t ≡ Some th → Leads code th.state (own_by b calls ss us h t) (ends_by d us t)
  unfolding own_by ends_by
  leads_by d b calls [] us h t th e = absurd (cc)
  leads_by d b calls (s ∷ ss) [] h t th e = absurd h
  leads_by d b calls (s ∷ ss) (u ∷ us) h zero th e =
      let same : thread_in s ≡ th = cc in
      subst (λ (x : ThreadAt State). Leads code x.state h.0.went.own (state u.thread.machine)) same h.0.went.leads
  leads_by d b calls (s ∷ ss) (u ∷ us) h (suc t) th e = leads_by d (b + 1) calls ss us h.1 t th e

  times_by : (b : ℕ) (calls : List (Call Op Reply)) (ss us : List (Worker M)) (h : AreDriven b calls ss us) (t : ℕ) (th : ThreadAt State)
      → slice_get (map thread_in ss) t ≡ Some th → TimesOut code (may (b + t)) th.state (own_by b calls ss us h t)
  unfolding own_by
  times_by b calls [] us h t th e = absurd (cc)
  times_by b calls (s ∷ ss) [] h t th e = absurd h
  times_by b calls (s ∷ ss) (u ∷ us) h zero th e =
      let same : thread_in s ≡ th = cc in
      let here : b ≡ b + 0 = omega arith in
      subst (λ k. TimesOut code (may k) th.state h.0.went.own) here
      (subst (λ (x : ThreadAt State). TimesOut code (may b) x.state h.0.went.own) same h.0.went.times)
  times_by b calls (s ∷ ss) (u ∷ us) h (suc t) th e =
      let there : b + 1 + t ≡ b + suc t = omega arith in
      subst (λ k. TimesOut code (may k) th.state (own_by (b + 1) calls ss us h.1 t)) there (times_by (b + 1) calls ss us h.1 t th e)

  calls_by : (b : ℕ) (calls : List (Call Op Reply)) (ss us : List (Worker M)) (h : AreDriven b calls ss us) (t : ℕ) → t < length ss
      → calls_in (b + t) (own_by b calls ss us h t) ≡ all_asked (part_of (b + t) calls)
  unfolding own_by
  calls_by b calls [] us h t l = absurd (omega (arith, l))
  calls_by b calls (s ∷ ss) [] h t l = absurd h
  calls_by b calls (s ∷ ss) (u ∷ us) h zero l =
      let here : b ≡ b + 0 = omega arith in
      subst (λ k. calls_in k h.0.went.own ≡ all_asked (part_of k calls)) here (sym h.0.went.calls)
  calls_by b calls (s ∷ ss) (u ∷ us) h (suc t) l =
      let there : b + 1 + t ≡ b + suc t = omega arith in
      subst (λ k. calls_in k (own_by (b + 1) calls ss us h.1 t) ≡ all_asked (part_of k calls)) there (calls_by (b + 1) calls ss us h.1 t (omega (arith, l)))

  -- where thread t stands then
  record IsLast (d : State) (calls : List (Call Op Reply)) (us : List (Worker M)) (t n : ℕ) (x y : ThreadAt State) : Type 0 where
    state_is : ends_by d us t ≡ y.state
    places_are : y.places ≡ x.places + length (part_of n calls)

  last_by : (d : State) (b : ℕ) (calls : List (Call Op Reply)) (ss us : List (Worker M)) (h : AreDriven b calls ss us) (t : ℕ) (x y : ThreadAt State)
      → slice_get (map thread_in ss) t ≡ Some x → slice_get (map thread_in us) t ≡ Some y → IsLast d calls us t (b + t) x y
  unfolding ends_by
  last_by d b calls [] us h t x y e f = absurd (cc)
  last_by d b calls (s ∷ ss) [] h t x y e f = absurd h
  last_by d b calls (s ∷ ss) (u ∷ us) h zero x y e f =
      let same : thread_in s ≡ x = cc in
      let last : thread_in u ≡ y = cc in
      let here : part_of b calls ≡ part_of (b + 0) calls = let z : b ≡ b + 0 = omega arith in ap (λ k. part_of k calls) z in
      record {
        state_is = ap (λ (z : ThreadAt State). z.state) last;
        places_are = let p = ap (λ (z : ThreadAt State). z.places) same in let q = ap (λ (z : ThreadAt State). z.places) last in let n = ap length here in omega (arith, p, q, n, h.0.places);
      }
  last_by d b calls (s ∷ ss) (u ∷ us) h (suc t) x y e f =
      let there : b + 1 + t ≡ b + suc t = omega arith in
      let r = last_by d (b + 1) calls ss us h.1 t x y e f in
      record { state_is = r.state_is; places_are = r.places_are ∙ ap (λ k. x.places + length (part_of k calls)) there }

  module _ {Value : Type 0} (space : Space Op Reply Value Fixed) (m : Memory Value Fixed) (calls : List (Call Op Reply)) (legal : IsLegalHistory space m calls) where
    abbrev pub world_with : Memory Value Fixed → List (Worker M) → WorldAt State Value Fixed
    world_with memory ws = record { threads = map thread_in ws; memory = memory }

    -- the run of the workers' threads
    pub record IsResumed (ss us : List (Worker M)) : Type 0 where
      pub picks : List Pick
      pub run : IsRun space code (world_with m ss) picks
      pub times : RunTimesOut space code may (world_with m ss) picks
      pub order : calls_of_run space code (world_with m ss) picks ≡ all_asked calls
      pub world : world_run space code (world_with m ss) picks ≡ world_with (memory_after_calls space m calls) us
      pub entries : (t : ℕ) → entries space code (world_with m ss) picks t ≡ entries_in (part_of t calls)

    execution : (d : State) (ss us : List (Worker M)) (h : AreDriven 0 calls ss us) → ((t : ℕ) → length ss ≤ t → part_of t calls ≡ [])
        → IsExecution space code may (world_with m ss) (all_asked calls) (λ t. own_by 0 calls ss us h t) (ends_by d us)
    execution d ss us h none = record {
      legal = legal_asked space m calls legal;
      leads = λ t th e. leads_by d 0 calls ss us h t th e;
      times = λ t th e. let z : 0 + t ≡ t = omega arith in subst (λ k. TimesOut code (may k) th.state (own_by 0 calls ss us h t)) z (times_by 0 calls ss us h t th e);
      parts = λ t l. let z : 0 + t ≡ t = omega arith in let n : length (map thread_in ss) ≡ length ss = length-map ss thread_in in
          subst (λ k. calls_in k (own_by 0 calls ss us h t) ≡ all_asked (part_of k calls)) z (calls_by 0 calls ss us h t (omega (arith, l, n))) ∙ sym (part_asked t calls);
      no_others = λ t l. let n : length (map thread_in ss) ≡ length ss = length-map ss thread_in in part_asked t calls ∙ ap all_asked (none t (omega (arith, l, n)));
    }

    resumed_with : (d : State) (ss us : List (Worker M)) (h : AreDriven 0 calls ss us) → IsRunOf space code may (world_with m ss) (all_asked calls) (ends_by d us) → IsResumed ss us
    resumed_with d ss us h r =
        let w = world_with m ss in
        let v = world_run space code w r.picks in
        let size : length v.threads ≡ length (map thread_in us) = length_run space code w r.picks ∙ (length-map ss thread_in ∙ (sym (same_number 0 calls ss us h) ∙ sym (length-map us thread_in))) in
        let threads : v.threads ≡ map thread_in us = threads_same v.threads (map thread_in us) size (λ t a b p q.
        elim (slice_get_cases (map thread_in ss) t).1 [
          | inl e ↦
              let z : 0 + t ≡ t = omega arith in
              let k = last_by d 0 calls ss us h t e.0 b e.2 q in
              let n : length (history.part t (all_asked calls)) ≡ length (part_of t calls) = ap length (part_asked t calls) ∙ length-map (part_of t calls) asked in
              let same : length (part_of (0 + t) calls) ≡ length (part_of t calls) = ap (λ x. length (part_of x calls)) z in
              let places = r.places t e.0 a e.2 p in (r.states t a p ∙ k.state_is, omega (arith, places, n, same, k.places_are))
          | inr e ↦ absurd (let g = e.0 in let l = slice_get_within (map thread_in us) t b q in let n = length_run space code w r.picks in omega (arith, g, l, n, size))
        ]) in
        let objects : v.memory ≡ memory_after_calls space m calls = r.memory ∙ memory_asked space m calls in
        record {
          picks = r.picks;
          run = r.run;
          times = r.times;
          order = r.order;
          world = ap (λ x. record { threads = x; memory = v.memory }) threads ∙ ap (λ x. record { threads = map thread_in us; memory = x }) objects;
          entries = λ t. r.entries t ∙ entries_asked space m calls t legal;
        }

    -- threads that were driven apart, over the memory that their calls lead to, are the world of a run
    pub driven_are_resumed : (ss us : List (Worker M)) → AreDriven 0 calls ss us → ((t : ℕ) → length ss ≤ t → part_of t calls ≡ []) → IsResumed ss us
    driven_are_resumed [] [] h none =
        let no_call : calls ≡ [] = no_calls_at_all calls (λ t. none t (omega arith)) in
        record {
          picks = [];
          run = tt;
          times = tt;
          order = ap all_asked (sym no_call);
          world = ap (λ cs. world_with (memory_after_calls space m cs) []) (sym no_call);
          entries = λ t. ap (λ cs. entries_in (part_of t cs)) (sym no_call);
        }
    driven_are_resumed [] (u ∷ us) h none = absurd h
    driven_are_resumed (s ∷ ss) us h none =
        resumed_with (state s.thread.machine) (s ∷ ss) us h
        (histories_are_runs space code may (world_with m (s ∷ ss)) (all_asked calls) _ (ends_by (state s.thread.machine) us) (execution (state s.thread.machine) (s ∷ ss) us h none))
