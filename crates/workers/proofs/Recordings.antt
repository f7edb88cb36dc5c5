-- Workers that did their work, and the steps that they left, are a recording.
use Rattle.std.proofs.Common.{◌≡◌, ℕ, zero, suc, ◌+◌, ◌<◌, ◌≤◌, Bool, true, List, [], ◌∷◌, ◌++◌, length, map, Some, slice_get, refl, sym, ap, ◌∙◌, subst, arith}
use Rattle.std.specs.List.{All}
use Rattle.std.proofs.lemmas.List.{length-map}
use Rattle.std.proofs.lemmas.List.Elements.{All-nil, All-cons}
use Rattle.wasm_types.specs.declared.sizes.TheConstants.{MOST_STEPS, MOST_THREADS}
use Rattle.rw_objects.specs.declared.entry.Entry.{Entry}
use Rattle.rw_objects.specs.Space.{Space, SpaceLaws}
use Rattle.rw_objects.specs.Code.{Code, CodeLaws}
use Rattle.rw_objects.specs.Counts.{no_counts}
use Rattle.rw_objects.specs.Memory.{Memory, memory_with}
use Rattle.event_core.specs.declared.pick.Pick.{Pick}
use Rattle.event_core.specs.declared.pick.Input.{Input}
use Rattle.event_core.specs.declared.pick.Input.TheVariants.{Go, TimeOut}
use Rattle.event_core.specs.declared.thread.Thread.{Thread}
use Rattle.event_core.specs.Threads.{ThreadAt, opening_thread, thread_of, threads_of}
use Rattle.event_core.specs.Opening.{AllFresh, IsFresh, IsOpeningWorld, opening_world}
use Rattle.event_core.proofs.Opens.{opening_is_sound, opening_is_opening}
use Rattle.event_core.specs.Sound.{IsSound}
use Rattle.event_core.specs.World.{WorldAt, world_after}
use Rattle.event_core.specs.Run.{world_run, IsRun, entries, run_end, end_of_world}
use Rattle.replay_laws.specs.History.{IfTimeOut, RunTimesOut}
use Rattle.replay_laws.proofs.Orders.{world_joined}
use Rattle.replay_laws.proofs.JoinedRuns.{run_joined, entries_joined, times_joined}
use Rattle.recorder.specs.Rounds.{AllGo, StepsWithin, NoneGoes, IsDone}
use Rattle.recorder.specs.Recorded.{list_at}
use Rattle.recorder.specs.ThreadLogAt.{RecordedAt}
use Rattle.recorder.proofs.RecordedLog.{recorded_log}
use Rattle.shared_parts.specs.declared.call.Call.{Call}
use Rattle.shared_parts.specs.Calls.{IsLegalHistory, memory_after_calls, part_of, entries_in}
use Rattle.workers.specs.Ran.{entries_by, AreRun}
use Rattle.workers.specs.declared.worker.Worker.{Worker}
use Rattle.workers.specs.Driving.{all_asked}
use Rattle.workers.specs.Work.{opening_worker, CanBegin, HasWorked}
use Rattle.workers.proofs.Asked.{legal_asked}
use Rattle.workers.specs.Recording.{IsRecording, IsRecordingOf}
use Rattle.workers.proofs.Resumes.{thread_in, AreDriven, world_with, IsResumed, sound_run, same_number, driven_are_resumed}

no_time_out : (i : Input) (P : Type 0) → i ≡ Go → IfTimeOut i P
no_time_out Go P e = tt
no_time_out TimeOut P e = absurd (cc)

-- the entries of each thread's calls
list_by : {Op Reply A : Type 0} (b : ℕ) (calls : List (Call Op Reply)) (ss : List A) (t : ℕ) → t < length ss → list_at (entries_by b calls ss) t ≡ entries_in (part_of (b + t) calls)
list_by b calls [] t l = absurd (omega (arith, l))
list_by b calls (s ∷ ss) zero l = let z : b ≡ b + 0 = omega arith in ap (λ k. entries_in (part_of k calls)) z
list_by b calls (s ∷ ss) (suc t) l = let z : b + 1 + t ≡ b + suc t = omega arith in list_by (b + 1) calls ss t (omega (arith, l)) ∙ ap (λ k. entries_in (part_of k calls)) z

pub entries_number : {Op Reply A : Type 0} (b : ℕ) (calls : List (Call Op Reply)) (ss : List A) → length (entries_by b calls ss) ≡ length ss
entries_number b calls [] = refl
entries_number b calls (s ∷ ss) = ap suc (entries_number (b + 1) calls ss)

module _ {M State Op Reply Fixed : Type 0} (code : Code State Op Reply Fixed) (state : M → State) (steps : ℕ) where
  -- they can begin
  pub all_begin : (fixed : Fixed) (ms : List M) → steps ≤ MOST_STEPS → AllFresh code state fixed ms → All (CanBegin code state fixed) (map (opening_worker steps) ms)
  all_begin fixed [] limit fresh = All-nil (CanBegin code state fixed)
  all_begin fixed (m ∷ ms) limit fresh =
      let f : IsFresh code fixed (state m) = fresh 0 m refl in
      All-cons (CanBegin code state fixed) (opening_worker steps m) (map (opening_worker steps) ms)
      (record { made_for = f.made_for; is_suited = f.is_suited; below = omega (arith, f.no_steps); limit = limit; places = omega (arith, f.no_steps) })
      (all_begin fixed ms limit (λ t x e. fresh (suc t) x e))

  module _ (may : ℕ → State → Bool) where
    opening_threads : (ms : List M) → map opening_thread (map state ms) ≡ map (thread_in code state may) (map (opening_worker steps) ms)
    opening_threads [] = refl
    opening_threads (m ∷ ms) = ap (λ l. opening_thread (state m) ∷ l) (opening_threads ms)

    within_by : (b : ℕ) (calls : List (Call Op Reply)) (ms : List M) (us : List (Worker M)) → AreDriven code state may b calls (map (opening_worker steps) ms) us
        → (t : ℕ) (th : ThreadAt State) → slice_get (map (thread_in code state may) us) t ≡ Some th → code.steps th.state ≤ steps
    within_by b calls [] [] h t th e = absurd (cc)
    within_by b calls [] (u ∷ us) h t th e = absurd h
    within_by b calls (m ∷ ms) [] h t th e = absurd h
    within_by b calls (m ∷ ms) (u ∷ us) h zero th e =
        let same : thread_in code state may u ≡ th = cc in
        let k = ap (λ (x : ThreadAt State). code.steps x.state) same in omega (arith, k, h.0.below)
    within_by b calls (m ∷ ms) (u ∷ us) h (suc t) th e = within_by (b + 1) calls ms us h.1 t th e

    module _ {Value : Type 0} (space : Space Op Reply Value Fixed) (m : Memory Value Fixed) (calls : List (Call Op Reply)) (legal : IsLegalHistory space m calls) where
      -- the world of workers that open is the opening world
      pub opens : (fixed : Fixed) (values : ℕ → Value) (ms : List M) → m ≡ memory_with fixed values no_counts
          → opening_world state fixed values ms ≡ world_with code state may space m calls legal m (map (opening_worker steps) ms)
      opens fixed values ms is = ap (λ ts. record { threads = ts; memory = memory_with fixed values no_counts }) (opening_threads ms) ∙ ap (λ x. record { threads = map (thread_in code state may) (map (opening_worker steps) ms); memory = x }) (sym is)

      -- the threads that stop, over the memory that they left, are sound
      pub stops_sound : SpaceLaws space → CodeLaws space code → (fixed : Fixed) (values : ℕ → Value) (ms : List M) (us : List (Worker M)) → m ≡ memory_with fixed values no_counts
          → length ms ≤ MOST_THREADS → AllFresh code state fixed ms → IsResumed code state may space m calls legal (map (opening_worker steps) ms) us → IsSound code (map (thread_in code state may) us) (memory_after_calls space m calls)
      stops_sound laws rules fixed values ms us is few fresh r =
          let w = world_with code state may space m calls legal m (map (opening_worker steps) ms) in
          let opening : IsOpeningWorld code w = subst (IsOpeningWorld code) (opens fixed values ms is) (opening_is_opening code state fixed values ms few fresh) in
          subst (λ (u : WorldAt State Value Fixed). IsSound code u.threads u.memory) r.world (sound_run space code laws rules w r.picks (opening_is_sound code w opening))

      none_times_out : (w : WorldAt State Value Fixed) (ps : List Pick) → AllGo ps → RunTimesOut space code may w ps
      none_times_out w [] g = tt
      none_times_out w (p ∷ ps) g = (λ th e. no_time_out p.input _ g.0, none_times_out (world_after space code w p) ps g.1)

      pub recording : (ms : List M) (us : List (Worker M)) → AreDriven code state may 0 calls (map (opening_worker steps) ms) us
          → IsResumed code state may space m calls legal (map (opening_worker steps) ms) us → (lists : List (List Entry)) → lists ≡ entries_by 0 calls (map (opening_worker steps) ms)
          → (recorded : RecordedAt) → IsDone space code steps (world_with code state may space m calls legal (memory_after_calls space m calls) us) lists recorded
          → length us ≡ length (map (opening_worker steps) ms)
          → IsRecordingOf space code may steps (world_with code state may space m calls legal m (map (opening_worker steps) ms)) (all_asked calls) recorded
      recording ms us h r lists same recorded d number =
          let ss = map (opening_worker steps) ms in
          let w = world_with code state may space m calls legal m ss in
          let mid = world_with code state may space m calls legal (memory_after_calls space m calls) us in
          let goes = d.goes in
          let u = d.last in
          let picks = r.picks ++ goes.picks in
          let run : IsRun space code (world_run space code w r.picks) goes.picks = subst (λ z. IsRun space code z goes.picks) (sym r.world) goes.run in
          let leads : world_run space code w picks ≡ u = world_joined space code w r.picks goes.picks ∙ (ap (λ z. world_run space code z goes.picks) r.world ∙ goes.world) in
          let same_size : length mid.threads ≡ length w.threads = length-map us (thread_in code state may) ∙ (number ∙ sym (length-map ss (thread_in code state may))) in
          let size : length w.threads ≡ length ss = length-map ss (thread_in code state may) in
          record {
            recording = record {
              calls = all_asked calls;
              legal = legal_asked space m calls legal;
              worked = r.picks;
              order = r.order;
              rounds = goes.picks;
              rounds_go = goes.all_go;
              picks = picks;
              whole = refl;
              run = run_joined space code w r.picks goes.picks r.run run;
              times = times_joined space code may w r.picks goes.picks r.times (none_times_out _ goes.picks goes.all_go);
              log = recorded_log space code w u picks (sym leads) d.after recorded.threads d.logged d.ends
                  (λ t l.
                  let z : 0 + t ≡ t = omega arith in
                  goes.logged t (omega (arith, l, same_size))
                  ∙ (ap (λ z. z ++ entries space code mid goes.picks t) (ap (λ ls. list_at ls t) same ∙ (list_by 0 calls ss t (omega (arith, l, size)) ∙ (ap (λ k. entries_in (part_of k calls)) z ∙ sym (r.entries t))))
                  ∙ (ap (λ z. entries space code w r.picks t ++ entries space code z goes.picks t) (sym r.world) ∙ sym (entries_joined space code w r.picks goes.picks t))))
                  (goes.lists ∙ (goes.size ∙ same_size));
              end = d.ended ∙ ap (end_of_world space code) (sym leads);
              within = subst (StepsWithin space code steps) (sym leads) (goes.within (λ t th e. within_by 0 calls ms us h t th e));
              none_goes = subst (NoneGoes space code steps) (sym leads) d.none;
              passed = d.none_passed;
            };
            same = refl;
          }

module _ {M State Op Reply Value Fixed : Type 0} (space : Space Op Reply Value Fixed) (code : Code State Op Reply Fixed) (state : M → State) (may : ℕ → State → Bool) (steps : ℕ) (fixed : Fixed) (values : ℕ → Value) (ms : List M) where
  abbrev pub Ran : List ℕ → List (List Entry) → Memory Value Fixed → List (Worker M) → List (Worker M) → Type 0
  Ran order entries memory ss us = AreRun space (HasWorked code state may) (memory_with fixed values no_counts) ss order entries memory us

  threads_seen : (ws : List (Worker M)) → threads_of state (map (λ w. w.thread) ws) ≡ map (thread_in code state may) ws
  threads_seen [] = refl
  threads_seen (w ∷ ws) = ap (λ l. thread_of state w.thread ∷ l) (threads_seen ws)

  -- workers of machines that made no step ran, and these are the threads that they left
  module _ (order : List ℕ) (logs : List (List Entry)) (memory : Memory Value Fixed) (us : List (Worker M)) (threads : List (Thread M)) (stopped : threads ≡ map (λ w. w.thread) us) (ran : Ran order logs memory (map (opening_worker steps) ms) us) where
    run_of : IsResumed code state may space (memory_with fixed values no_counts) ran.calls ran.legal (map (opening_worker steps) ms) us
    run_of = driven_are_resumed code state may space (memory_with fixed values no_counts) ran.calls ran.legal (map (opening_worker steps) ms) us ran.each ran.no_others

    threads_are : threads_of state threads ≡ map (thread_in code state may) us
    threads_are = ap (threads_of state) stopped ∙ threads_seen us

    number : length us ≡ length (map (opening_worker steps) ms)
    number = same_number code state may 0 ran.calls (map (opening_worker steps) ms) us ran.each

    pub ran_sound : SpaceLaws space → CodeLaws space code → length ms ≤ MOST_THREADS → AllFresh code state fixed ms → IsSound code (threads_of state threads) memory
    ran_sound laws rules few fresh =
        subst (λ ts. IsSound code ts memory) (sym threads_are)
        (subst (IsSound code (map (thread_in code state may) us)) (sym ran.led)
        (stops_sound code state steps may space (memory_with fixed values no_counts) ran.calls ran.legal laws rules fixed values ms us refl few fresh run_of))

    pub ran_logs : length logs ≡ length (threads_of state threads)
    ran_logs = ap length ran.entered ∙ (entries_number 0 ran.calls (map (opening_worker steps) ms) ∙ (sym number ∙ (sym (length-map us (thread_in code state may)) ∙ ap length (sym threads_are))))

    pub ran_recording : (mid : WorldAt State Value Fixed) → mid.threads ≡ threads_of state threads → mid.memory ≡ memory → (recorded : RecordedAt) → IsDone space code steps mid logs recorded
        → IsRecordingOf space code may steps (opening_world state fixed values ms) (all_asked ran.calls) recorded
    ran_recording mid ts mem recorded d =
        let after = memory_after_calls space (memory_with fixed values no_counts) ran.calls in
        let mid_is : mid ≡ record { threads = map (thread_in code state may) us; memory = after } =
        ap (λ x. record { threads = x; memory = mid.memory }) (ts ∙ threads_are) ∙ ap (λ x. record { threads = map (thread_in code state may) us; memory = x }) (mem ∙ ran.led) in
        subst (λ w. IsRecordingOf space code may steps w (all_asked ran.calls) recorded) (sym (opens code state steps may space (memory_with fixed values no_counts) ran.calls ran.legal fixed values ms refl))
        (recording code state steps may space (memory_with fixed values no_counts) ran.calls ran.legal ms us ran.each run_of logs ran.entered recorded
        (subst (λ w. IsDone space code steps w logs recorded) mid_is d) number)
