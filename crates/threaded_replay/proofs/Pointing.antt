-- Workers that followed a log stand where a gated run from it leads.
use Rattle.std.proofs.Common.{◌≡◌, ◌⊎◌, ℕ, zero, suc, ◌+◌, ◌≤◌, Bool, true, false, List, [], ◌∷◌, ◌++◌, length, map, Some, slice_get, refl, sym, ap, ◌∙◌, subst, arith, inl, inr}
use Rattle.std.specs.List.{All}
use Rattle.std.proofs.lemmas.List.{length-map, map-append}
use Rattle.std.proofs.lemmas.List.Elements.{All-head, All-tail, All-nil, All-cons, All-push}
use Rattle.wasm_types.specs.declared.sizes.TheConstants.{MOST_STEPS, MOST_THREADS}
use Rattle.rw_objects.specs.declared.entry.Entry.{Entry}
use Rattle.rw_objects.specs.Space.{Space, SpaceLaws}
use Rattle.rw_objects.specs.Code.{Code, CodeLaws}
use Rattle.rw_objects.specs.Counts.{no_counts}
use Rattle.rw_objects.specs.Memory.{Memory, memory_with}
use Rattle.event_core.specs.declared.thread.Thread.{Thread}
use Rattle.event_core.specs.Threads.{ThreadAt, thread_of, threads_of}
use Rattle.event_core.specs.Opening.{AllFresh, IsFresh, IsOpeningWorld, opening_world}
use Rattle.event_core.specs.Sound.{IsSound}
use Rattle.event_core.specs.World.{WorldAt}
use Rattle.event_core.specs.Run.{entries}
use Rattle.event_core.proofs.Opens.{opening_is_opening}
use Rattle.replica.specs.End.{End}
use Rattle.replay_laws.specs.Log.{Log}
use Rattle.replay_gate.specs.Leads.{Leads}
use Rattle.shared_core.specs.Call.{Call}
use Rattle.shared_core.specs.Calls.{part_of, memory_after_calls, entries_in}
use Rattle.workers.specs.Ran.{AllLead, AreRun, entries_by}
use Rattle.workers.specs.declared.worker.Worker.{Worker}
use Rattle.workers.specs.Work.{opening_worker, HasWorked}
use Rattle.workers.proofs.Resumes.{thread_in, world_with, IsResumed, driven_are_resumed}
use Rattle.workers.proofs.Recordings.{opens, ran_sound}
use Rattle.threaded_replay.specs.declared.follower.Follower.{Follower}
use Rattle.threaded_replay.specs.Following.{Follows}
use Rattle.threaded_replay.specs.Work.{opened_thread, CanFollow, HasFollowed}
use Rattle.threaded_replay.proofs.Gating.{HasLogged, logged_is_gated}

abbrev always : {State : Type 0} → ℕ → State → Bool
always t s = true

-- a worker of a replay, as one that records and may make all steps that there are
abbrev with_thread : {M : Type 0} → Thread M → Worker M
with_thread th = record { thread = th; steps = MOST_STEPS; is_starved = false }

abbrev as_worker : {M L : Type 0} → Follower M L → Worker M
as_worker f = with_thread f.thread

as_workers : {M L : Type 0} (fs : List (Follower M L)) → map as_worker fs ≡ map with_thread (map (λ f. f.thread) fs)
as_workers [] = refl
as_workers (f ∷ fs) = ap (λ l. as_worker f ∷ l) (as_workers fs)

as_threads : {M L : Type 0} (fs : List (Follower M L)) → map (λ f. f.thread) fs ≡ map (λ w. w.thread) (map as_worker fs)
as_threads [] = refl
as_threads (f ∷ fs) = ap (λ l. f.thread ∷ l) (as_threads fs)

with_opened : {M : Type 0} (ms : List M) → map with_thread (map opened_thread ms) ≡ map (opening_worker MOST_STEPS) ms
with_opened [] = refl
with_opened (m ∷ ms) = ap (λ l. opening_worker MOST_STEPS m ∷ l) (with_opened ms)

-- one more worker opens
pub opened_on : {M L : Type 0} (ms : List M) (m : M) (fs gs : List (Follower M L)) (f : Follower M L) → gs ≡ fs ++ f ∷ [] → f.thread ≡ opened_thread m → map (λ w. w.thread) fs ≡ map opened_thread ms → map (λ w. w.thread) gs ≡ map opened_thread (ms ++ m ∷ [])
opened_on ms m fs gs f grown is same =
    ap (map (λ w. w.thread)) grown ∙ (map-append (λ w. w.thread) fs (f ∷ []) ∙ (ap (λ l. l ++ f.thread ∷ []) same ∙ (ap (λ th. map opened_thread ms ++ th ∷ []) is ∙ sym (map-append opened_thread ms (m ∷ [])))))

pub follow_on : {M L : Type 0} (l : L) (fs gs : List (Follower M L)) (f : Follower M L) → gs ≡ fs ++ f ∷ [] → f.log.now ≡ l → All (λ w. w.log.now ≡ l) fs → All (λ w. w.log.now ≡ l) gs
follow_on l fs gs f grown is all = subst (All (λ w. w.log.now ≡ l)) (sym grown) (All-push (λ w. w.log.now ≡ l) fs f all is)

entries_as : {Op Reply M L : Type 0} (b : ℕ) (calls : List (Call Op Reply)) (fs : List (Follower M L)) → entries_by b calls fs ≡ entries_by b calls (map as_worker fs)
entries_as b calls [] = refl
entries_as b calls (f ∷ fs) = ap (λ l. entries_in (part_of b calls) ∷ l) (entries_as (b + 1) calls fs)

threads_seen : {M State Op Reply Fixed : Type 0} (code : Code State Op Reply Fixed) (state : M → State) (ws : List (Worker M)) → threads_of state (map (λ w. w.thread) ws) ≡ map (thread_in code state always) ws
threads_seen code state [] = refl
threads_seen code state (w ∷ ws) = ap (λ l. thread_of state w.thread ∷ l) (threads_seen code state ws)

module _ {M L State Op Reply Fixed : Type 0} (code : Code State Op Reply Fixed) (state : M → State) (logged : L → Log) where
  -- each follows its log
  abbrev pub follows_by : ℕ → Follower M L → List (Call Op Reply) → Follower M L → Type 0
  follows_by t w calls u = HasFollowed code state (logged w.log.now) t w calls u

  have_worked : (b : ℕ) (calls : List (Call Op Reply)) (ss us : List (Follower M L)) → AllLead follows_by b calls ss us → AllLead (HasWorked code state always) b calls (map as_worker ss) (map as_worker us)
  have_worked b calls [] [] h = tt
  have_worked b calls [] (u ∷ us) h = h
  have_worked b calls (s ∷ ss) [] h = h
  have_worked b calls (s ∷ ss) (u ∷ us) h = (record { went = h.0.went; places = h.0.places; below = h.0.limit }, have_worked (b + 1) calls ss us h.1)

  -- those that open can follow
  pub all_can_follow : (fixed : Fixed) (ms : List M) (ss : List (Follower M L)) → map (λ w. w.thread) ss ≡ map opened_thread ms → AllFresh code state fixed ms → All (CanFollow code state fixed) ss
  all_can_follow fixed ms [] same fresh = All-nil (CanFollow code state fixed)
  all_can_follow fixed [] (s ∷ ss) same fresh = absurd (let z = ap length same in omega (arith, z))
  all_can_follow fixed (m ∷ ms) (s ∷ ss) same fresh =
      let here : s.thread ≡ opened_thread m = cc in
      let rest : map (λ w. w.thread) ss ≡ map opened_thread ms = cc in
      All-cons (CanFollow code state fixed) s ss
      (record { fresh = subst (λ (x : Thread M). IsFresh code fixed (state x.machine)) (sym here) (fresh 0 m refl); places = ap (λ (x : Thread M). x.places) here })
      (all_can_follow fixed ms ss rest (λ t x e. fresh (suc t) x e))

  module _ (l : L) where
    -- what a thread of a worker did
    abbrev IsLogged : ℕ → List (Call Op Reply) → ThreadAt State → Type 0
    IsLogged t calls th = (code.steps th.state ≡ 0) ⊎ ((end : End) × Follows code (logged l) end t th.state (part_of t calls))

    logged_by : (b : ℕ) (calls : List (Call Op Reply)) (ss us : List (Follower M L)) → AllLead follows_by b calls ss us → All (λ w. w.log.now ≡ l) ss
        → (t : ℕ) (th : ThreadAt State) → slice_get (map (thread_in code state always) (map as_worker us)) t ≡ Some th → IsLogged (b + t) calls th
    logged_by b calls [] [] h follow t th e = absurd (cc)
    logged_by b calls [] (u ∷ us) h follow t th e = absurd h
    logged_by b calls (s ∷ ss) [] h follow t th e = absurd h
    logged_by b calls (s ∷ ss) (u ∷ us) h follow zero th e =
        let same : thread_of state u.thread ≡ th = cc in
        let here : b ≡ b + 0 = omega arith in
        let one = All-head (λ w. w.log.now ≡ l) s ss follow in
        subst (λ k. IsLogged k calls th) here
        (subst (IsLogged b calls) same
        (subst (λ x. (code.steps (state u.thread.machine) ≡ 0) ⊎ ((end : End) × Follows code (logged x) end b (state u.thread.machine) (part_of b calls))) one h.0.followed))
    logged_by b calls (s ∷ ss) (u ∷ us) h follow (suc t) th e =
        let there : b + 1 + t ≡ b + suc t = omega arith in
        subst (λ k. IsLogged k calls th) there (logged_by (b + 1) calls ss us h.1 (All-tail (λ w. w.log.now ≡ l) s ss follow) t th e)

    module _ {Value : Type 0} (space : Space Op Reply Value Fixed) (laws : SpaceLaws space) (rules : CodeLaws space code) (fixed : Fixed) (values : ℕ → Value) (ms : List M)
        (order : List ℕ) (logs : List (List Entry)) (memory : Memory Value Fixed) (ss us : List (Follower M L)) (threads : List (Thread M))
        (opened : map (λ w. w.thread) ss ≡ map opened_thread ms) (follow : All (λ w. w.log.now ≡ l) ss) (stopped : threads ≡ map (λ w. w.thread) us)
        (left : AreRun space follows_by (memory_with fixed values no_counts) ss order logs memory us) (few : length ms ≤ MOST_THREADS) (fresh : AllFresh code state fixed ms) where
      workers_opened : map as_worker ss ≡ map (opening_worker MOST_STEPS) ms
      workers_opened = as_workers ss ∙ (ap (map with_thread) opened ∙ with_opened ms)

      ran : AreRun space (HasWorked code state always) (memory_with fixed values no_counts) (map as_worker ss) order logs memory (map as_worker us)
      ran = record {
        calls = left.calls;
        legal = left.legal;
        led = left.led;
        ordered = left.ordered;
        entered = left.entered ∙ entries_as 0 left.calls ss;
        no_others = λ t n. left.no_others t (let k = length-map ss as_worker in omega (arith, n, k));
        each = have_worked 0 left.calls ss us left.each;
      }

      threads_left : threads ≡ map (λ w. w.thread) (map as_worker us)
      threads_left = stopped ∙ as_threads us

      pub point_sound : IsSound code (threads_of state threads) memory
      point_sound = ran_sound space code state always MOST_STEPS fixed values ms order logs memory (map as_worker us) threads threads_left
          (subst (λ ws. AreRun space (HasWorked code state always) (memory_with fixed values no_counts) ws order logs memory (map as_worker us)) workers_opened ran) laws rules few fresh

      abbrev opening : WorldAt State Value Fixed
      opening = world_with code state always space (memory_with fixed values no_counts) left.calls left.legal (memory_with fixed values no_counts) (map as_worker ss)

      opening_is : opening_world state fixed values ms ≡ opening
      opening_is =
          opens code state MOST_STEPS always space (memory_with fixed values no_counts) left.calls left.legal fixed values ms refl
          ∙ ap (world_with code state always space (memory_with fixed values no_counts) left.calls left.legal (memory_with fixed values no_counts)) (sym workers_opened)

      resumed : IsResumed code state always space (memory_with fixed values no_counts) left.calls left.legal (map as_worker ss) (map as_worker us)
      resumed = driven_are_resumed code state always space (memory_with fixed values no_counts) left.calls left.legal (map as_worker ss) (map as_worker us)
          (have_worked 0 left.calls ss us left.each) (λ t n. left.no_others t (let k = length-map ss as_worker in omega (arith, n, k)))

      is_opening : IsOpeningWorld code opening
      is_opening = subst (IsOpeningWorld code) opening_is (opening_is_opening code state fixed values ms few fresh)

      all_logged : HasLogged space code rules (logged l) opening resumed.picks
      all_logged t th e =
          let at : slice_get (map (thread_in code state always) (map as_worker us)) t ≡ Some th = ap (λ (u : WorldAt State Value Fixed). slice_get u.threads t) (sym resumed.world) ∙ e in
          let z : 0 + t ≡ t = omega arith in
          let h = subst (λ k. IsLogged k left.calls th) z (logged_by 0 left.calls ss us left.each follow t th at) in
          let same : entries space code opening resumed.picks t ≡ entries_in (part_of t left.calls) = resumed.entries t in
          let long = ap length same ∙ length-map (part_of t left.calls) (λ c. c.entry) in
          elim h [
            | inl none ↦ inl none
            | inr k ↦ inr (k.0, k.1.is_known, k.1.steps, omega (arith, long, k.1.places), λ place item is. k.1.entries place item (ap (λ xs. slice_get xs place) (sym same) ∙ is))
          ]

      pub point : (v : WorldAt State Value Fixed) → v.threads ≡ threads_of state threads → v.memory ≡ memory → Leads space code (logged l) (opening_world state fixed values ms) v
      point v ts mem =
          let after = memory_after_calls space (memory_with fixed values no_counts) left.calls in
          let there : threads_of state threads ≡ map (thread_in code state always) (map as_worker us) = ap (threads_of state) threads_left ∙ threads_seen code state (map as_worker us) in
          let is : v ≡ record { threads = map (thread_in code state always) (map as_worker us); memory = after } =
          ap (λ x. record { threads = x; memory = v.memory }) (ts ∙ there) ∙ ap (λ x. record { threads = map (thread_in code state always) (map as_worker us); memory = x }) (mem ∙ left.led) in
          subst (λ w. Leads space code (logged l) w v) (sym opening_is)
          (record { picks = resumed.picks; gated = logged_is_gated space code rules (logged l) opening is_opening resumed.picks resumed.run all_logged; leads = is ∙ sym resumed.world })
