-- A legal history, with each thread's own steps, is a run.
use Rattle.std.proofs.Common.{◌≡◌, ◌≢◌, ℕ, zero, suc, ◌+◌, ◌<◌, ◌≤◌, ◌==◌, Bool, true, false, cond, List, [], ◌∷◌, ◌++◌, length, Option, Some, None, slice_get, refl, sym, ap, ◌∙◌, subst, arith, inl, inr, append_assoc}
use Rattle.std.proofs.lemmas.Bool.Decides.{eqb_tells}
use Rattle.std.proofs.lemmas.Option.{slice_get_within, slice_get_cases}
use Rattle.rw_objects.specs.declared.entry.Entry.{Entry}
use Rattle.rw_objects.specs.declared.next.Next.{Next}
use Rattle.rw_objects.specs.declared.next.Next.TheVariants as next
use Rattle.rw_objects.specs.Space.{Space, is_ready, reply_of}
use Rattle.rw_objects.specs.Code.{Code}
use Rattle.rw_objects.specs.Memory.{Memory, entry_of, memory_after}
use Rattle.event_core.specs.declared.pick.Pick.{Pick}
use Rattle.event_core.specs.declared.pick.Input.{Input}
use Rattle.event_core.specs.declared.pick.Input.TheVariants.{Go, TimeOut}
use Rattle.event_core.specs.declared.step.PickStep.TheVariants as step
use Rattle.event_core.specs.declared.step.StepFault.{StepFault}
use Rattle.event_core.specs.Threads.{ThreadAt, thread_after_local, thread_after_reply}
use Rattle.event_core.specs.PickStep.{step_of_next, is_enabled}
use Rattle.event_core.specs.World.{WorldAt, step_of_pick, world_after, world_after_step}
use Rattle.event_core.specs.Run.{world_run, IsRun, entries, entries_of_step}
use Rattle.event_core.proofs.Threads.{step_some}
use Rattle.event_core.proofs.Places.{places_at, places_of_run, length_run, length_after}
use Rattle.replay_laws.specs.Turns.{pick_of}
use Rattle.replay_laws.specs.History.{Call, part, IsLegalHistory, memory_after_calls, entries_of_calls, calls_of_step, calls_of_run, OwnStep, OwnLocal, OwnCall, calls_in, op_at, Leads, IfTimeOut, TimesOut, RunTimesOut, IsExecution, IsRunOf, HistoriesAreRuns}
use Rattle.event_core.proofs.LocalRuns.{get_same, get_other}
use Rattle.replay_laws.proofs.Orders.{world_joined}
use Rattle.replay_laws.proofs.JoinedRuns.{run_joined, entries_joined, calls_joined, times_joined}

-- no step is left, or the next is a call
abbrev Starts : {Op Reply : Type 0} → List (OwnStep Op Reply) → Type 0
Starts [] = Unit {0}
Starts (OwnLocal ∷ ds) = ⊥
Starts (OwnCall input op reply ∷ ds) = Unit {0}

no_calls : {Op Reply : Type 0} (t : ℕ) (ds : List (OwnStep Op Reply)) → calls_in t ds ≡ [] → Starts ds → ds ≡ []
no_calls t [] e s = refl
no_calls t (OwnLocal ∷ ds) e s = absurd s
no_calls t (OwnCall input op reply ∷ ds) e s = absurd (cc)

-- steps that begin with a call
record Begins {Op Reply : Type 0} (t : ℕ) (ds : List (OwnStep Op Reply)) (c : Call Op Reply) (cs : List (Call Op Reply)) : Type 0 where
  input : Input
  rest : List (OwnStep Op Reply)
  is : ds ≡ OwnCall input c.op c.reply ∷ rest
  calls : calls_in t rest ≡ cs

begins : {Op Reply : Type 0} (t : ℕ) (ds : List (OwnStep Op Reply)) (c : Call Op Reply) (cs : List (Call Op Reply)) → Starts ds → calls_in t ds ≡ c ∷ cs → Begins t ds c cs
begins t [] c cs s e = absurd (cc)
begins t (OwnLocal ∷ ds) c cs s e = absurd s
begins {Op} {Reply} t (OwnCall input op reply ∷ ds) c cs s e =
    let made : Call Op Reply = record { thread = t; op = op; reply = reply } in
    let same : made ≡ c = cc in
    record {
      input = input;
      rest = ds;
      is = ap (λ o. OwnCall input o reply ∷ ds) (ap (λ (k : Call Op Reply). k.op) same) ∙ ap (λ r. OwnCall input c.op r ∷ ds) (ap (λ (k : Call Op Reply). k.reply) same);
      calls = cc;
    }

part_same : {Op Reply : Type 0} (c : Call Op Reply) (cs : List (Call Op Reply)) (t : ℕ) → c.thread ≡ t → part t (c ∷ cs) ≡ c ∷ part t cs
part_same c cs t e = elim (eqb_tells c.thread t) [ inl p ↦ ap (λ b. cond b (c ∷ part t cs) (part t cs)) p.0 | inr p ↦ absurd (p.1 e) ]

part_other : {Op Reply : Type 0} (c : Call Op Reply) (cs : List (Call Op Reply)) (t : ℕ) → c.thread ≢ t → part t (c ∷ cs) ≡ part t cs
part_other c cs t d = elim (eqb_tells c.thread t) [ inl p ↦ absurd (d p.1) | inr p ↦ ap (λ b. cond b (c ∷ part t cs) (part t cs)) p.0 ]

ready_step : {Op : Type 0} (b : Bool) (op : Op) (f : StepFault) → b ≡ true → cond b (step.Event op) (step.Refused f) ≡ step.Event op
ready_step b op f e = ap (λ x. cond x (step.Event op) (step.Refused f)) e

module _ {State Op Reply Value Fixed : Type 0} (space : Space Op Reply Value Fixed) (code : Code State Op Reply Fixed) (may : ℕ → State → Bool) where
  event_by : (m : Memory Value Fixed) (n : Next Op) (input : Input) (op : Op) → op_at n input ≡ Some op → is_ready space m.fixed m.values op ≡ true → step_of_next space m n input ≡ step.Event op
  event_by m next.Local input op e r = absurd (cc)
  event_by m (next.Ask asked) Go op e r = let s : asked ≡ op = cc in ap (λ o. step.Event o) s
  event_by m (next.Ask asked) TimeOut op e r = absurd (cc)
  event_by m (next.Asleep resume out) Go op e r =
      let s : op ≡ resume = cc in
      subst (λ o. step_of_next space m (next.Asleep resume out) Go ≡ step.Event o) (sym s) (ready_step _ resume _ (subst (λ o. is_ready space m.fixed m.values o ≡ true) s r))
  event_by m (next.Asleep resume None) TimeOut op e r = absurd (cc)
  event_by m (next.Asleep resume (Some out)) TimeOut op e r =
      let s : op ≡ out = cc in
      subst (λ o. step_of_next space m (next.Asleep resume (Some out)) TimeOut ≡ step.Event o) (sym s) (ready_step _ out _ (subst (λ o. is_ready space m.fixed m.values o ≡ true) s r))
  event_by m (next.Halted outcome) input op e r = absurd (cc)

  -- a thread has an entry for each of its calls
  entry_more : (b : Bool) (e : Entry) (c : Call Op Reply) (es : List Entry) (cs : List (Call Op Reply)) → length es ≡ length cs → length (cond b (e ∷ []) [] ++ es) ≡ length (cond b (c ∷ cs) cs)
  entry_more true e c es cs h = ap suc h
  entry_more false e c es cs h = h

  entries_count : (m : Memory Value Fixed) (calls : List (Call Op Reply)) (t : ℕ) → length (entries_of_calls space m calls t) ≡ length (part t calls)
  entries_count m [] t = refl
  entries_count m (c ∷ cs) t = entry_more (c.thread == t) (entry_of space m c.op) c _ (part t cs) (entries_count (memory_after space m c.op) cs t)

  places_of : (w : WorldAt State Value Fixed) (ps : List Pick) (calls : List (Call Op Reply)) → ((t : ℕ) → entries space code w ps t ≡ entries_of_calls space w.memory calls t)
      → (t : ℕ) (before after : ThreadAt State) → slice_get w.threads t ≡ Some before → slice_get (world_run space code w ps).threads t ≡ Some after → after.places ≡ before.places + length (part t calls)
  places_of w ps calls same t before after is be =
      let all = places_of_run space code w ps t in
      let first : places_at (slice_get w.threads t) ≡ before.places = ap places_at is in
      let last : places_at (slice_get (world_run space code w ps).threads t) ≡ after.places = ap places_at be in
      let count : length (entries space code w ps t) ≡ length (part t calls) = ap length (same t) ∙ entries_count w.memory calls t in
      omega (arith, all, first, last, count)

  -- thread t's local steps up to its next call
  record Led (w : WorldAt State Value Fixed) (t : ℕ) (ds : List (OwnStep Op Reply)) (u : State) : Type 0 where
    picks : List Pick
    run : IsRun space code w picks
    silent : (x : ℕ) → entries space code w picks x ≡ []
    quiet : calls_of_run space code w picks ≡ []
    memory : (world_run space code w picks).memory ≡ w.memory
    others : (x : ℕ) → x ≢ t → slice_get (world_run space code w picks).threads x ≡ slice_get w.threads x
    thread : ThreadAt State
    at : slice_get (world_run space code w picks).threads t ≡ Some thread
    rest : List (OwnStep Op Reply)
    leads : Leads code thread.state rest u
    calls : calls_in t rest ≡ calls_in t ds
    starts : Starts rest
    local : RunTimesOut space code may w picks
    times : TimesOut code (may t) thread.state rest

  lead : (t : ℕ) (ds : List (OwnStep Op Reply)) (w : WorldAt State Value Fixed) (th : ThreadAt State) (u : State) → slice_get w.threads t ≡ Some th → Leads code th.state ds u → TimesOut code (may t) th.state ds → Led w t ds u
  lead t [] w th u is l m = record { local = tt; times = m; picks = []; run = tt; silent = λ x. refl; quiet = refl; memory = refl; others = λ x d. refl; thread = th; at = is; rest = []; leads = l; calls = refl; starts = tt }
  lead t (OwnCall input op reply ∷ ds) w th u is l m = record { local = tt; times = m; picks = []; run = tt; silent = λ x. refl; quiet = refl; memory = refl; others = λ x d. refl; thread = th; at = is; rest = OwnCall input op reply ∷ ds; leads = l; calls = refl; starts = tt }
  lead t (OwnLocal ∷ ds) w th u is l m =
      let p = pick_of t Go in
      let q : step_of_pick space code w p ≡ step.Local = step_some space code w p th is l.1 ∙ ap (λ n. step_of_next space w.memory n Go) l.0 in
      let v = world_after space code w p in
      let v_is : v ≡ world_after_step space code w t step.Local = ap (world_after_step space code w t) q in
      let at_v : slice_get v.threads t ≡ Some (thread_after_local code th) = ap (λ z. slice_get z.threads t) v_is ∙ get_same (thread_after_local code) w.threads t th is in
      let r = lead t ds v (thread_after_local code th) u at_v l.2 m in
      record {
        picks = p ∷ r.picks;
        run = (ap is_enabled q, r.run);
        silent = λ x. ap (λ j. entries_of_step space w.memory t x j ++ entries space code v r.picks x) q ∙ r.silent x;
        quiet = ap (λ j. calls_of_step space w.memory t j ++ calls_of_run space code v r.picks) q ∙ r.quiet;
        memory = r.memory ∙ ap (λ z. z.memory) v_is;
        others = λ x d. r.others x d ∙ (ap (λ z. slice_get z.threads x) v_is ∙ get_other (thread_after_local code) w.threads t x d);
        thread = r.thread;
        at = r.at;
        rest = r.rest;
        leads = r.leads;
        calls = r.calls;
        starts = r.starts;
        local = (λ y e. tt, r.local);
        times = r.times;
      }

  -- the last steps of the threads below k
  record Finished (w : WorldAt State Value Fixed) (k : ℕ) (ends : ℕ → State) : Type 0 where
    picks : List Pick
    run : IsRun space code w picks
    silent : (x : ℕ) → entries space code w picks x ≡ []
    quiet : calls_of_run space code w picks ≡ []
    memory : (world_run space code w picks).memory ≡ w.memory
    later : (x : ℕ) → k ≤ x → slice_get (world_run space code w picks).threads x ≡ slice_get w.threads x
    states : (x : ℕ) (th : ThreadAt State) → x < k → slice_get (world_run space code w picks).threads x ≡ Some th → th.state ≡ ends x
    local : RunTimesOut space code may w picks

  module _ (own : ℕ → List (OwnStep Op Reply)) (ends : ℕ → State) (w : WorldAt State Value Fixed)
      (leads : (t : ℕ) (th : ThreadAt State) → slice_get w.threads t ≡ Some th → Leads code th.state (own t) (ends t)) (times : (t : ℕ) (th : ThreadAt State) → slice_get w.threads t ≡ Some th → TimesOut code (may t) th.state (own t)) (none : (t : ℕ) → t < length w.threads → calls_in t (own t) ≡ []) where
    skip : (k : ℕ) → Finished w k ends → slice_get w.threads k ≡ None → Finished w (suc k) ends
    skip k r e = record {
      picks = r.picks;
      run = r.run;
      local = r.local;
      silent = r.silent;
      quiet = r.quiet;
      memory = r.memory;
      later = λ x l. r.later x (omega arith);
      states = λ x th l is. elim (eqb_tells x k) [
        | inl p ↦ absurd (let z : None ≡ Some th = sym e ∙ (sym (r.later k (omega arith)) ∙ (ap (slice_get (world_run space code w r.picks).threads) (sym p.1) ∙ is)) in cc)
        | inr p ↦ r.states x th (let d = p.1 in omega arith) is
      ];
    }

    one_more : (k : ℕ) → Finished w k ends → (th : ThreadAt State) → slice_get w.threads k ≡ Some th → Finished w (suc k) ends
    one_more k r th e =
        let v = world_run space code w r.picks in
        let d = lead k (own k) v th (ends k) (r.later k (omega arith) ∙ e) (leads k th e) (times k th e) in
        let no_rest : d.rest ≡ [] = no_calls k d.rest (d.calls ∙ none k (slice_get_within w.threads k th e)) d.starts in
        let done : d.thread.state ≡ ends k = subst (λ ds. Leads code d.thread.state ds (ends k)) no_rest d.leads in
        let all = world_joined space code w r.picks d.picks in
        record {
          picks = r.picks ++ d.picks;
          run = run_joined space code w r.picks d.picks r.run d.run;
          local = times_joined space code may w r.picks d.picks r.local d.local;
          silent = λ x. entries_joined space code w r.picks d.picks x ∙ (ap (λ l. l ++ entries space code v d.picks x) (r.silent x) ∙ d.silent x);
          quiet = calls_joined space code w r.picks d.picks ∙ (ap (λ l. l ++ calls_of_run space code v d.picks) r.quiet ∙ d.quiet);
          memory = ap (λ z. z.memory) all ∙ (d.memory ∙ r.memory);
          later = λ x l. ap (λ z. slice_get z.threads x) all ∙ (d.others x (λ (z : x ≡ k). absurd (omega arith)) ∙ r.later x (omega arith));
          states = λ x u l is. elim (eqb_tells x k) [
            | inl p ↦
                let here : slice_get (world_run space code v d.picks).threads k ≡ Some u = ap (λ y. slice_get (world_run space code v d.picks).threads y) (sym p.1) ∙ (ap (λ z. slice_get z.threads x) (sym all) ∙ is) in
                let same : d.thread ≡ u = let z : Some d.thread ≡ Some u = sym d.at ∙ here in cc in
                ap (λ (y : ThreadAt State). y.state) (sym same) ∙ (done ∙ ap ends (sym p.1))
            | inr p ↦ r.states x u (let d = p.1 in omega arith) (sym (d.others x p.1) ∙ (ap (λ z. slice_get z.threads x) (sym all) ∙ is))
          ];
        }

    one_step : (k : ℕ) → Finished w k ends → (o : Option (ThreadAt State)) → slice_get w.threads k ≡ o → Finished w (suc k) ends
    one_step k r None e = skip k r e
    one_step k r (Some th) e = one_more k r th e

    finish : (k : ℕ) → Finished w k ends
    finish zero = record { local = tt; picks = []; run = tt; silent = λ x. refl; quiet = refl; memory = refl; later = λ x l. refl; states = λ x th l is. absurd (omega arith) }
    finish (suc k) = one_step k (finish k) (slice_get w.threads k) refl

  no_more : (w : WorldAt State Value Fixed) (own : ℕ → List (OwnStep Op Reply)) (ends : ℕ → State) → IsExecution space code may w [] own ends → IsRunOf space code may w [] ends
  no_more w own ends x =
      let r = finish own ends w x.leads x.times x.parts (length w.threads) in
      record {
        picks = r.picks;
        run = r.run;
        times = r.local;
        order = r.quiet;
        entries = r.silent;
        memory = r.memory;
        places = places_of w r.picks [] r.silent;
        states = λ t th is. r.states t th (let l = slice_get_within (world_run space code w r.picks).threads t th is in omega (arith, l, length_run space code w r.picks)) is;
      }

  -- the first call, after the local steps of its thread
  module _ (w : WorldAt State Value Fixed) (c : Call Op Reply) (cs : List (Call Op Reply)) (own : ℕ → List (OwnStep Op Reply)) (ends : ℕ → State) (x : IsExecution space code may w (c ∷ cs) own ends)
      (d : Led w c.thread (own c.thread) (ends c.thread)) (b : Begins c.thread d.rest c (part c.thread cs)) where
    abbrev mid : WorldAt State Value Fixed
    mid = world_run space code w d.picks

    abbrev pick : Pick
    pick = pick_of c.thread b.input

    abbrev left : WorldAt State Value Fixed
    left = world_after space code mid pick

    abbrev own_after : ℕ → List (OwnStep Op Reply)
    own_after t = cond (t == c.thread) b.rest (own t)

    call : Leads code d.thread.state (OwnCall b.input c.op c.reply ∷ b.rest) (ends c.thread)
    call = subst (λ ds. Leads code d.thread.state ds (ends c.thread)) b.is d.leads

    may_call : TimesOut code (may c.thread) d.thread.state (OwnCall b.input c.op c.reply ∷ b.rest)
    may_call = subst (λ ds. TimesOut code (may c.thread) d.thread.state ds) b.is d.times

    may_here : (thread : ThreadAt State) → slice_get mid.threads c.thread ≡ Some thread → IfTimeOut b.input (may c.thread thread.state ≡ true)
    may_here thread e =
        let same : d.thread ≡ thread = let z : Some d.thread ≡ Some thread = sym d.at ∙ e in cc in
        subst (λ (y : ThreadAt State). IfTimeOut b.input (may c.thread y.state ≡ true)) same may_call.0

    event : step_of_pick space code mid pick ≡ step.Event c.op
    event =
        step_some space code mid pick d.thread d.at call.1
        ∙ event_by mid.memory (code.next d.thread.state) b.input c.op call.0 (subst (λ m. is_ready space m.fixed m.values c.op ≡ true) (sym d.memory) x.legal.0)

    left_is : left ≡ world_after_step space code mid c.thread (step.Event c.op)
    left_is = ap (world_after_step space code mid c.thread) event

    at_left : slice_get left.threads c.thread ≡ Some (thread_after_reply code c.reply d.thread)
    at_left =
        ap (λ z. slice_get z.threads c.thread) left_is
        ∙ get_same (thread_after_reply code (reply_of space mid.memory.fixed mid.memory.values c.op)) mid.threads c.thread d.thread d.at
        ∙ ap (λ r. Some (thread_after_reply code r d.thread)) (ap (λ m. reply_of space m.fixed m.values c.op) d.memory ∙ sym x.legal.1)

    others_left : (t : ℕ) → t ≢ c.thread → slice_get left.threads t ≡ slice_get w.threads t
    others_left t n =
        ap (λ z. slice_get z.threads t) left_is
        ∙ get_other (thread_after_reply code (reply_of space mid.memory.fixed mid.memory.values c.op)) mid.threads c.thread t n
        ∙ d.others t n

    memory_left : left.memory ≡ memory_after space w.memory c.op
    memory_left = ap (λ z. z.memory) left_is ∙ ap (λ m. memory_after space m c.op) d.memory

    size_left : length left.threads ≡ length w.threads
    size_left = length_after space code mid c.thread (step_of_pick space code mid pick) ∙ length_run space code w d.picks

    within : c.thread < length w.threads
    within = let l = slice_get_within mid.threads c.thread d.thread d.at in omega (arith, l, length_run space code w d.picks)

    own_same : (t : ℕ) → t ≡ c.thread → own_after t ≡ b.rest
    own_same t e = elim (eqb_tells t c.thread) [ inl p ↦ ap (λ y. cond y b.rest (own t)) p.0 | inr p ↦ absurd (p.1 e) ]

    own_other : (t : ℕ) → t ≢ c.thread → own_after t ≡ own t
    own_other t n = elim (eqb_tells t c.thread) [ inl p ↦ absurd (n p.1) | inr p ↦ ap (λ y. cond y b.rest (own t)) p.0 ]

    leads_same : (t : ℕ) (th : ThreadAt State) → t ≡ c.thread → slice_get left.threads t ≡ Some th → Leads code th.state (own_after t) (ends t)
    leads_same t th e is =
        let here : slice_get left.threads c.thread ≡ Some th = ap (slice_get left.threads) (sym e) ∙ is in
        let same : thread_after_reply code c.reply d.thread ≡ th = let z : Some (thread_after_reply code c.reply d.thread) ≡ Some th = sym at_left ∙ here in cc in
        subst (λ (y : ThreadAt State). Leads code y.state (own_after t) (ends t)) same
        (subst (λ ds. Leads code (code.take d.thread.state c.reply) ds (ends t)) (sym (own_same t e))
        (subst (λ y. Leads code (code.take d.thread.state c.reply) b.rest (ends y)) (sym e) call.2))

    leads_other : (t : ℕ) (th : ThreadAt State) → t ≢ c.thread → slice_get left.threads t ≡ Some th → Leads code th.state (own_after t) (ends t)
    leads_other t th n is = subst (λ ds. Leads code th.state ds (ends t)) (sym (own_other t n)) (x.leads t th (sym (others_left t n) ∙ is))

    times_same : (t : ℕ) (th : ThreadAt State) → t ≡ c.thread → slice_get left.threads t ≡ Some th → TimesOut code (may t) th.state (own_after t)
    times_same t th e is =
        let here : slice_get left.threads c.thread ≡ Some th = ap (slice_get left.threads) (sym e) ∙ is in
        let same : thread_after_reply code c.reply d.thread ≡ th = let z : Some (thread_after_reply code c.reply d.thread) ≡ Some th = sym at_left ∙ here in cc in
        subst (λ (y : ThreadAt State). TimesOut code (may t) y.state (own_after t)) same
        (subst (λ ds. TimesOut code (may t) (code.take d.thread.state c.reply) ds) (sym (own_same t e))
        (subst (λ y. TimesOut code (may y) (code.take d.thread.state c.reply) b.rest) (sym e) may_call.1))

    times_other : (t : ℕ) (th : ThreadAt State) → t ≢ c.thread → slice_get left.threads t ≡ Some th → TimesOut code (may t) th.state (own_after t)
    times_other t th n is = subst (λ ds. TimesOut code (may t) th.state ds) (sym (own_other t n)) (x.times t th (sym (others_left t n) ∙ is))

    parts_same : (t : ℕ) → t ≡ c.thread → calls_in t (own_after t) ≡ part t cs
    parts_same t e = ap (calls_in t) (own_same t e) ∙ subst (λ y. calls_in y b.rest ≡ part y cs) (sym e) b.calls

    parts_other : (t : ℕ) → t ≢ c.thread → t < length w.threads → calls_in t (own_after t) ≡ part t cs
    parts_other t n l = ap (calls_in t) (own_other t n) ∙ (x.parts t l ∙ part_other c cs t (λ e. n (sym e)))

    after_call : IsExecution space code may left cs own_after ends
    after_call = record {
      legal = subst (λ m. IsLegalHistory space m cs) (sym memory_left) x.legal.2;
      leads = λ t th is. elim (eqb_tells t c.thread) [ inl p ↦ leads_same t th p.1 is | inr p ↦ leads_other t th p.1 is ];
      times = λ t th is. elim (eqb_tells t c.thread) [ inl p ↦ times_same t th p.1 is | inr p ↦ times_other t th p.1 is ];
      parts = λ t l. elim (eqb_tells t c.thread) [ inl p ↦ parts_same t p.1 | inr p ↦ parts_other t p.1 (omega (arith, l, size_left)) ];
      no_others = λ t l. sym (part_other c cs t (λ (e : c.thread ≡ t). absurd (omega (arith, e, l, size_left, within)))) ∙ x.no_others t (omega (arith, l, size_left));
    }

    first_call : calls_of_step space mid.memory c.thread (step_of_pick space code mid pick) ≡ c ∷ []
    first_call =
        ap (calls_of_step space mid.memory c.thread) event
        ∙ ap (λ y. called y ∷ []) (ap (λ m. reply_of space m.fixed m.values c.op) d.memory ∙ sym x.legal.1)
      where
        called : Reply → Call Op Reply
        called y = record { thread = c.thread; op = c.op; reply = y }

    in_order : (r : IsRunOf space code may left cs ends) → calls_of_run space code w (d.picks ++ pick ∷ r.picks) ≡ c ∷ cs
    in_order r =
        calls_joined space code w d.picks (pick ∷ r.picks)
        ∙ ap (λ l. l ++ (calls_of_step space mid.memory c.thread (step_of_pick space code mid pick) ++ calls_of_run space code left r.picks)) d.quiet
        ∙ ap (λ l. l ++ calls_of_run space code left r.picks) first_call
        ∙ ap (λ l. c ∷ l) r.order

    with_call : IsRunOf space code may left cs ends → IsRunOf space code may w (c ∷ cs) ends
    with_call r =
        let all = world_joined space code w d.picks (pick ∷ r.picks) in
        let es : (t : ℕ) → entries space code w (d.picks ++ pick ∷ r.picks) t ≡ entries_of_calls space w.memory (c ∷ cs) t = λ t. (
        entries_joined space code w d.picks (pick ∷ r.picks) t
        ∙ ap (λ l. l ++ (entries_of_step space mid.memory c.thread t (step_of_pick space code mid pick) ++ entries space code left r.picks t)) (d.silent t)
        ∙ ap (λ j. entries_of_step space mid.memory c.thread t j ++ entries space code left r.picks t) event
        ∙ ap (λ m. cond (c.thread == t) (entry_of space m c.op ∷ []) [] ++ entries space code left r.picks t) d.memory
        ∙ ap (λ l. cond (c.thread == t) (entry_of space w.memory c.op ∷ []) [] ++ l) (r.entries t ∙ ap (λ m. entries_of_calls space m cs t) memory_left)) in
        record {
          picks = d.picks ++ pick ∷ r.picks;
          run = run_joined space code w d.picks (pick ∷ r.picks) d.run (ap is_enabled event, r.run);
          times = times_joined space code may w d.picks (pick ∷ r.picks) d.local (may_here, r.times);
          order = in_order r;
          entries = es;
          places = places_of w (d.picks ++ pick ∷ r.picks) (c ∷ cs) es;
          memory = ap (λ z. z.memory) all ∙ (r.memory ∙ ap (λ m. memory_after_calls space m cs) memory_left);
          states = λ t th is. r.states t th (ap (λ z. slice_get z.threads t) (sym all) ∙ is);
        }

  first_thread : (w : WorldAt State Value Fixed) (c : Call Op Reply) (cs : List (Call Op Reply)) (own : ℕ → List (OwnStep Op Reply)) (ends : ℕ → State) → IsExecution space code may w (c ∷ cs) own ends → (th : ThreadAt State) × (slice_get w.threads c.thread ≡ Some th)
  first_thread w c cs own ends x =
      elim (slice_get_cases w.threads c.thread).1 [
        | inl e ↦ (e.0, e.2)
        | inr e ↦ absurd (let z : c ∷ part c.thread cs ≡ [] = sym (part_same c cs c.thread refl) ∙ x.no_others c.thread e.0 in cc)
      ]

  execution_runs : (w : WorldAt State Value Fixed) (calls : List (Call Op Reply)) (own : ℕ → List (OwnStep Op Reply)) (ends : ℕ → State) → IsExecution space code may w calls own ends → IsRunOf space code may w calls ends
  execution_runs w [] own ends x = no_more w own ends x
  execution_runs w (c ∷ cs) own ends x =
      let th = first_thread w c cs own ends x in
      let d = lead c.thread (own c.thread) w th.0 (ends c.thread) th.1 (x.leads c.thread th.0 th.1) (x.times c.thread th.0 th.1) in
      let b = begins c.thread d.rest c (part c.thread cs) d.starts (d.calls ∙ (x.parts c.thread (slice_get_within w.threads c.thread th.0 th.1) ∙ part_same c cs c.thread refl)) in
      with_call w c cs own ends x d b (execution_runs (left w c cs own ends x d b) cs (own_after w c cs own ends x d b) ends (after_call w c cs own ends x d b))

pub histories_are_runs : {State Op Reply Value Fixed : Type 0} (space : Space Op Reply Value Fixed) (code : Code State Op Reply Fixed) → HistoriesAreRuns space code
histories_are_runs space code may = execution_runs space code may
