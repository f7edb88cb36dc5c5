-- A run whose entries are those of a log is gated.
use Rattle.std.proofs.Common.{◌≡◌, ◌≢◌, ◌⊎◌, ℕ, ◌+◌, ◌≤◌, ◌==◌, ◌&&◌, true, cond, List, [], ◌∷◌, ◌++◌, length, Some, slice_get, refl, sym, ap, ◌∙◌, subst, arith, inl, inr, append_assoc}
use Rattle.std.proofs.lemmas.List.{length-append}
use Rattle.std.proofs.lemmas.Bool.Decides.{eqb_tells}
use Rattle.std.proofs.lemmas.Option.{slice_get_cases, slice_get_within}
use Rattle.rw_objects.specs.declared.count.Count.{Count}
use Rattle.rw_objects.specs.declared.touch.Mode.{Mode}
use Rattle.rw_objects.specs.declared.touch.Mode.TheVariants.{Read, Write}
use Rattle.rw_objects.specs.declared.touch.Touch.{Touch}
use Rattle.rw_objects.specs.declared.entry.Entry.{Entry}
use Rattle.rw_objects.specs.Space.{Space, reply_of}
use Rattle.rw_objects.specs.Counts.{all_found, found_as}
use Rattle.rw_objects.specs.Code.{Code, CodeLaws}
use Rattle.rw_objects.specs.Memory.{entry_of}
use Rattle.event_core.specs.declared.pick.Pick.{Pick}
use Rattle.event_core.specs.declared.step.PickStep.{PickStep}
use Rattle.event_core.specs.declared.step.PickStep.TheVariants as step
use Rattle.event_core.specs.Threads.{ThreadAt, thread_after_local, thread_after_reply}
use Rattle.event_core.specs.PickStep.{is_enabled}
use Rattle.event_core.specs.Opening.{IsOpeningWorld}
use Rattle.event_core.specs.World.{WorldAt, step_of_pick, world_after, world_after_step}
use Rattle.event_core.specs.Run.{world_run, IsRun, entries, entries_of_step}
use Rattle.event_core.proofs.Steps.{thread_local}
use Rattle.event_core.proofs.Places.{places_count_entries, length_run}
use Rattle.replica.specs.Flat.TheVariants.{Known}
use Rattle.replica.specs.End.{End}
use Rattle.replay_laws.specs.Log.{Log}
use Rattle.replay_laws.specs.Gates.{is_met, is_open, is_of, are_of, MeetsLog, LetsPass, IsGatedRun}
use Rattle.event_core.proofs.LocalRuns.{get_same, get_other}
use Rattle.replay_laws.proofs.Orders.{world_joined}
use Rattle.replay_laws.proofs.JoinedRuns.{entries_joined}
use Rattle.recorder.proofs.GoingOn.{event_thread}

same_number : (n : ℕ) → (n == n) ≡ true
same_number n = elim (eqb_tells n n) [ inl p ↦ p.0 | inr p ↦ absurd (p.1 refl) ]

met_here : (m : Mode) (o : ℕ) (counts : ℕ → Count) → is_met (found_as m o (counts o)) counts ≡ true
met_here Read o counts = same_number (counts o).version
met_here Write o counts = ap (λ b. b && ((counts o).reads == (counts o).reads)) (same_number (counts o).version) ∙ same_number (counts o).reads

-- what touches find opens the gate
open_here : (ts : List Touch) (counts : ℕ → Count) → is_open (all_found ts counts) counts ≡ true
open_here [] counts = refl
open_here (t ∷ ts) counts = ap (λ b. b && is_open (all_found ts counts) counts) (met_here t.mode t.object counts) ∙ open_here ts counts

of_here : (t : Touch) (m : Mode) (c : Count) → t.mode ≡ m → is_of t (found_as m t.object c) ≡ true
of_here t Read c e = rw (same_number t.object, e) refl
of_here t Write c e = rw (same_number t.object, e) refl

are_here : (ts : List Touch) (counts : ℕ → Count) → are_of ts (all_found ts counts) ≡ true
are_here [] counts = refl
are_here (t ∷ ts) counts = ap (λ b. b && are_of ts (all_found ts counts)) (of_here t t.mode (counts t.object) refl) ∙ are_here ts counts

get_middle : {A : Type 0} (xs : List A) (y : A) (ys : List A) → slice_get (xs ++ y ∷ ys) (length xs) ≡ Some y
get_middle [] y ys = refl
get_middle (x ∷ xs) y ys = get_middle xs y ys

module _ {State Op Reply Value Fixed : Type 0} (space : Space Op Reply Value Fixed) (code : Code State Op Reply Fixed) (rules : CodeLaws space code) where
  -- the thread of an enabled pick makes one step, and no other does
  record IsMoved (w : WorldAt State Value Fixed) (p : Pick) : Type 0 where
    thread : ThreadAt State
    at : slice_get w.threads p.thread ≡ Some thread
    next : ThreadAt State
    at_next : slice_get (world_after space code w p).threads p.thread ≡ Some next
    more : code.steps next.state ≡ code.steps thread.state + 1
    others : (x : ℕ) → x ≢ p.thread → slice_get (world_after space code w p).threads x ≡ slice_get w.threads x

  moved : (w : WorldAt State Value Fixed) (p : Pick) (s : PickStep Op) → step_of_pick space code w p ≡ s → is_enabled s ≡ true → IsMoved w p
  moved w p (step.Refused f) e on = absurd (cc)
  moved w p step.Local e on =
      let t = thread_local space code w.memory (slice_get w.threads p.thread) p.input e in
      let v_is : world_after space code w p ≡ world_after_step space code w p.thread step.Local = ap (world_after_step space code w p.thread) e in
      record {
        thread = t.0;
        at = t.1;
        next = thread_after_local code t.0;
        at_next = ap (λ z. slice_get z.threads p.thread) v_is ∙ get_same (thread_after_local code) w.threads p.thread t.0 t.1;
        more = rules.local_steps t.0.state t.2.next;
        others = λ x d. ap (λ z. slice_get z.threads x) v_is ∙ get_other (thread_after_local code) w.threads p.thread x d;
      }
  moved w p (step.Event op) e on =
      let t = event_thread space code w.memory (slice_get w.threads p.thread) p.input op e in
      let reply = reply_of space w.memory.fixed w.memory.values op in
      let v_is : world_after space code w p ≡ world_after_step space code w p.thread (step.Event op) = ap (world_after_step space code w p.thread) e in
      record {
        thread = t.0;
        at = t.1;
        next = thread_after_reply code reply t.0;
        at_next = ap (λ z. slice_get z.threads p.thread) v_is ∙ get_same (thread_after_reply code reply) w.threads p.thread t.0 t.1;
        more = rules.take_steps t.0.state reply t.2;
        others = λ x d. ap (λ z. slice_get z.threads x) v_is ∙ get_other (thread_after_reply code reply) w.threads p.thread x d;
      }

  steps_grow : (w : WorldAt State Value Fixed) (ps : List Pick) (t : ℕ) (a b : ThreadAt State) → IsRun space code w ps → slice_get w.threads t ≡ Some a → slice_get (world_run space code w ps).threads t ≡ Some b → code.steps a.state ≤ code.steps b.state
  steps_grow w [] t a b run e f = let same : a ≡ b = let z : Some a ≡ Some b = sym e ∙ f in cc in let k = ap (λ (y : ThreadAt State). code.steps y.state) same in omega (arith, k)
  steps_grow w (p ∷ ps) t a b run e f =
      let m = moved w p (step_of_pick space code w p) refl run.0 in
      let v = world_after space code w p in
      elim (eqb_tells t p.thread) [
        | inl q ↦
            let same : m.thread ≡ a = let z : Some m.thread ≡ Some a = sym m.at ∙ (ap (slice_get w.threads) (sym q.1) ∙ e) in cc in
            let rest = steps_grow v ps t m.next b run.1 (ap (slice_get v.threads) q.1 ∙ m.at_next) f in
            let k = ap (λ (y : ThreadAt State). code.steps y.state) same in
            omega (arith, k, m.more, rest)
        | inr q ↦ steps_grow v ps t a b run.1 (m.others t q.1 ∙ e) f
      ]

  -- what the log has of a thread that a run leads to: it made no step, or its entries are those of the log, up to its
  -- end
  abbrev pub HasLogged : Log → WorldAt State Value Fixed → List Pick → Type 0
  HasLogged log w ps = (t : ℕ) (th : ThreadAt State) → slice_get (world_run space code w ps).threads t ≡ Some th
      → (code.steps th.state ≡ 0)
      ⊎ ((end : End) × (log.end t ≡ Some (Known end)) × (code.steps th.state ≤ end.steps) × (length (entries space code w ps t) ≤ end.places)
      × ((place : ℕ) (e : Entry) → slice_get (entries space code w ps t) place ≡ Some e → log.entry t place ≡ Some (Known e)))

  module _ (log : Log) (w : WorldAt State Value Fixed) (opening : IsOpeningWorld code w) where
    meets_step : (qs rs : List Pick) (p : Pick) (end : End) (th : ThreadAt State) → slice_get (world_run space code w qs).threads p.thread ≡ Some th
        → length (entries space code w (qs ++ p ∷ rs) p.thread) ≤ end.places
        → ((place : ℕ) (e : Entry) → slice_get (entries space code w (qs ++ p ∷ rs) p.thread) place ≡ Some e → log.entry p.thread place ≡ Some (Known e))
        → (s : PickStep Op) → step_of_pick space code (world_run space code w qs) p ≡ s → is_enabled s ≡ true
        → MeetsLog space (log.entry p.thread th.places) th.places end.places (world_run space code w qs).memory s
    meets_step qs rs p end th at most known (step.Refused f) e on = absurd (cc)
    meets_step qs rs p end th at most known step.Local e on = tt
    meets_step qs rs p end th at most known (step.Event op) e on =
        let mid = world_run space code w qs in
        let item = entry_of space mid.memory op in
        let xs = entries space code w qs p.thread in
        let ys = entries space code (world_after space code mid p) rs p.thread in
        let place : th.places ≡ length xs = places_count_entries space code w opening qs p.thread th at in
        let here : entries_of_step space mid.memory p.thread p.thread (step_of_pick space code mid p) ≡ item ∷ [] = ap (entries_of_step space mid.memory p.thread p.thread) e ∙ ap (λ b. cond b (item ∷ []) []) (same_number p.thread) in
        let all : entries space code w (qs ++ p ∷ rs) p.thread ≡ xs ++ item ∷ ys = entries_joined space code w qs (p ∷ rs) p.thread ∙ ap (λ z. xs ++ (z ++ ys)) here in
        let long : length (entries space code w (qs ++ p ∷ rs) p.thread) ≡ length xs + length (item ∷ ys) = ap length all ∙ length-append xs (item ∷ ys) in (
          omega (arith, place, long, most),
          record {
            item = item;
            is_known = known th.places item (ap (λ n. slice_get (entries space code w (qs ++ p ∷ rs) p.thread) n) place ∙ (ap (λ z. slice_get z (length xs)) all ∙ get_middle xs item ys));
            opens = open_here (space.touches op) mid.memory.counts;
            same_kind = refl;
            same_touches = are_here (space.touches op) mid.memory.counts;
          },
        )

    passes : (qs rs : List Pick) (p : Pick) → IsRun space code (world_run space code w qs) (p ∷ rs) → HasLogged log w (qs ++ p ∷ rs) → LetsPass space code log (world_run space code w qs) p
    passes qs rs p run logged =
        let mid = world_run space code w qs in
        let m = moved mid p (step_of_pick space code mid p) refl run.0 in
        let joined = world_joined space code w qs (p ∷ rs) in
        let last = world_run space code (world_after space code mid p) rs in
        elim (slice_get_cases last.threads p.thread).1 [
          | inl h ↦
              let grown = steps_grow (world_after space code mid p) rs p.thread m.next h.0 run.1 m.at_next h.2 in
              elim (logged p.thread h.0 (ap (λ z. slice_get z.threads p.thread) joined ∙ h.2)) [
                | inl none ↦ absurd (omega (arith, none, grown, m.more))
                | inr k ↦ record {
                  thread = m.thread;
                  exists = m.at;
                  end = k.0;
                  is_known = k.1;
                  below = omega (arith, k.2, grown, m.more);
                  meets = meets_step qs rs p k.0 m.thread m.at k.3 k.4 (step_of_pick space code mid p) refl run.0;
                }
              ]
          | inr h ↦ absurd (
              let l = slice_get_within (world_after space code mid p).threads p.thread m.next m.at_next in
              let n = length_run space code (world_after space code mid p) rs in
              let g = h.0 in
              omega (arith, l, n, g))
        ]

    gated_from : (qs rs : List Pick) → IsRun space code (world_run space code w qs) rs → HasLogged log w (qs ++ rs) → IsGatedRun space code log (world_run space code w qs) rs
    gated_from qs [] run logged = tt
    gated_from qs (p ∷ rs) run logged =
        let one : world_run space code w (qs ++ p ∷ []) ≡ world_after space code (world_run space code w qs) p = world_joined space code w qs (p ∷ []) in
        let rest = gated_from (qs ++ p ∷ []) rs (subst (λ z. IsRun space code z rs) (sym one) run.1) (subst (HasLogged log w) (sym (append_assoc qs (p ∷ []) rs)) logged) in
        (passes qs rs p run logged, subst (λ z. IsGatedRun space code log z rs) one rest)

    -- a run whose entries are those of the log is gated
    pub logged_is_gated : (ps : List Pick) → IsRun space code w ps → HasLogged log w ps → IsGatedRun space code log w ps
    logged_is_gated ps run logged = gated_from [] ps run logged
