-- Runs of a thread whose accesses are those that a log has.
use Rattle.std.proofs.Common.{◌≡◌, ℕ, zero, suc, ◌+◌, ◌-◌, ◌<◌, ◌≤◌, ◌==◌, ◌&&◌, Bool, true, false, cond, List, [], ◌∷◌, ◌++◌, Option, Some, None, slice_get, refl, sym, ◌∙◌, ap, subst, arith}
use Rattle.std.specs.Prelude.{IsTrue, IsSome, ◌↔◌, nat_lt, option_map}
use Rattle.std.proofs.lemmas.Bool.{lt-ltb, ltb-true}
use Rattle.std.proofs.lemmas.Bool.Decides.{Decides-eqb}
use Rattle.std.proofs.lemmas.Option.{same_Some, option_and_then_some}
use Rattle.rw_objects.specs.Decides.{entry_decides}
use Rattle.rw_objects.specs.Code.{Code, CodeLaws, TakesReply}
use Rattle.rw_objects.specs.Counts.{all_found, found_as}
use Rattle.rw_objects.specs.Memory.{Memory, memory_after, entry_of}
use Rattle.rw_objects.specs.Space.{Space, reply_of}
use Rattle.rw_objects.specs.declared.count.Count.{Count}
use Rattle.rw_objects.specs.declared.entry.Entry.{Entry}
use Rattle.rw_objects.specs.declared.next.Next.{Next}
use Rattle.rw_objects.specs.declared.next.Next.TheVariants as next
use Rattle.rw_objects.specs.declared.touch.Mode.{Mode}
use Rattle.rw_objects.specs.declared.touch.Mode.TheVariants.{Read, Write}
use Rattle.rw_objects.specs.declared.touch.Touch.{Touch}
use Rattle.event_core.specs.declared.pick.Input.TheVariants.{Go}
use Rattle.event_core.specs.declared.step.PickStep.{PickStep}
use Rattle.event_core.specs.declared.step.PickStep.TheVariants as step
use Rattle.event_core.specs.LocalRun.{go_of, goes}
use Rattle.event_core.specs.PickStep.{step_of_next, is_enabled}
use Rattle.event_core.specs.Run.{entries, entries_of_step, IsRun}
use Rattle.event_core.specs.ThreadRun.{put_all, IsThreadRun}
use Rattle.event_core.specs.Threads.{ThreadAt, change_at, thread_after_local, thread_after_reply}
use Rattle.event_core.specs.World.{WorldAt, step_of_pick, world_after_step}
use Rattle.event_core.proofs.LocalRuns.{get_same}
use Rattle.event_core.proofs.Steps.{thread_local}
use Rattle.event_core.proofs.Threads.{step_some}
use Rattle.log_pieces.specs.declared.end.End.{End}
use Rattle.log_pieces.specs.declared.flat.Flat.{Flat}
use Rattle.log_pieces.specs.declared.flat.Flat.TheVariants.{Known, Clash}
use Rattle.replay_laws.specs.Log.{Log, HasLimits}
use Rattle.replay_laws.specs.Gates.{is_met, is_open, is_of, are_of, MeetsLog, IsGatedRun}
use Rattle.replay_gate.specs.Following.{is_claimed, LogPlace, follow}
use Rattle.replay_gate.specs.Leads.{Leads}
use Rattle.replay_gate.proofs.Going.{made_of}

both : (a b : Bool) → a ≡ true → b ≡ true → (a && b) ≡ true
both a b p q = ap (λ x. x && b) p ∙ q

parts : (a b : Bool) → (a && b) ≡ true → (a ≡ true) × (b ≡ true)
parts true b h = (refl, h)
parts false b h = absurd cc

-- ---- what a log takes

claimed_is : (o : Option (Flat Entry)) (entry : Entry) → is_claimed o entry ≡ true → o ≡ Some (Known entry)
claimed_is None entry h = absurd cc
claimed_is (Some Clash) entry h = absurd cc
claimed_is (Some (Known item)) entry h = ap (λ x. Some (Known x)) (sym ((entry_decides entry item).0 h))

claimed_as : (o : Option (Flat Entry)) (entry : Entry) → o ≡ Some (Known entry) → is_claimed o entry ≡ true
claimed_as o entry h = ap (λ x. is_claimed x entry) h ∙ (entry_decides entry entry).1 refl

some_where : {A : Type 0} (b : Bool) (a : A) → IsSome (cond b (Some a) None) → b ≡ true
some_where true a h = refl
some_where false a h = absurd cc

where_some : {A : Type 0} (b : Bool) (a : A) → b ≡ true → IsSome (cond b (Some a) None)
where_some b a h = subst (λ x. IsSome (cond x (Some a) None)) (sym h) refl

module _ {L : Type 0} (log : L → Log) where
  -- an entry that is claimed at the place
  pub record Follows (f u : LogPlace L) (entry : Entry) : Type 0 where
    pub below : f.place < f.places
    pub claimed : (log f.log).entry f.thread f.place ≡ Some (Known entry)
    pub next : record f { place = f.place + 1 } ≡ u

  taken_by : (b : Bool) (f u : LogPlace L) → cond b (Some (record f { place = f.place + 1 })) None ≡ Some u → (b ≡ true) × (record f { place = f.place + 1 } ≡ u)
  taken_by true f u h = (refl, same_Some _ _ h)
  taken_by false f u h = absurd cc

  follows : (f u : LogPlace L) (entry : Entry) → follow log f entry ≡ Some u → Follows f u entry
  follows f u entry h =
      let claim = is_claimed ((log f.log).entry f.thread f.place) entry in
      let t = taken_by (nat_lt f.place f.places && claim) f u h in
      let p = parts (nat_lt f.place f.places) claim t.0 in
      record { below = ltb-true f.place f.places p.0; claimed = claimed_is ((log f.log).entry f.thread f.place) entry p.1; next = t.1 }

  pub known_takes : (f at : LogPlace L) (item entry : Entry) (b : Bool) → f ≡ at → f.place < f.places → (log f.log).entry f.thread f.place ≡ Some (Known item) → IsTrue b ↔ (entry ≡ item) → IsTrue b ↔ IsSome (follow log at entry)
  known_takes f at item entry b same below claimed told = subst (λ (x : LogPlace L). IsTrue b ↔ IsSome (follow log x entry)) same (
    λ yes. where_some (nat_lt f.place f.places && claim) _ (both (nat_lt f.place f.places) claim (lt-ltb f.place f.places below) (claimed_as ((log f.log).entry f.thread f.place) entry (claimed ∙ ap (λ x. Some (Known x)) (sym (told.0 yes))))),
    λ some. told.1 (known_same (sym (claimed_is ((log f.log).entry f.thread f.place) entry (parts (nat_lt f.place f.places) claim (some_where (nat_lt f.place f.places && claim) _ some)).1) ∙ claimed)),
  )
    where
      claim : Bool
      claim = is_claimed ((log f.log).entry f.thread f.place) entry

      known_same : Some (Known entry) ≡ Some (Known item) → entry ≡ item
      known_same h = cc

  pub none_takes : (f at : LogPlace L) (entry : Entry) → f ≡ at → ((item : Entry) → (log f.log).entry f.thread f.place ≡ Some (Known item) → ⊥) → IsTrue false ↔ IsSome (follow log at entry)
  none_takes f at entry same none = subst (λ (x : LogPlace L). IsTrue false ↔ IsSome (follow log x entry)) same (
    λ yes. absurd cc,
    λ some. absurd (none entry (claimed_is ((log f.log).entry f.thread f.place) entry (parts (nat_lt f.place f.places) claim (some_where (nat_lt f.place f.places && claim) _ some)).1)),
  )
    where
      claim : Bool
      claim = is_claimed ((log f.log).entry f.thread f.place) entry

  -- the log stays
  pub same_log : (f u : LogPlace L) (es : List Entry) → put_all (follow log) f es ≡ Some u → u.log ≡ f.log
  same_log f u [] h = ap (λ (x : LogPlace L). x.log) (sym (same_Some f u h))
  same_log f u (e ∷ es) h = option_and_then_some (λ x. put_all (follow log) x es) (follow log f e) u h (λ x is more. same_log x u es more ∙ ap (λ (y : LogPlace L). y.log) (sym ((follows f x e is).next)))

-- ---- what an entry finds

met : (m : Mode) (o : ℕ) (counts : ℕ → Count) → is_met (found_as m o (counts o)) counts ≡ true
met Read o counts = (Decides-eqb (counts o).version (counts o).version).1 refl
met Write o counts = both ((counts o).version == (counts o).version) ((counts o).reads == (counts o).reads) ((Decides-eqb (counts o).version (counts o).version).1 refl) ((Decides-eqb (counts o).reads (counts o).reads).1 refl)

pub found_open : (ts : List Touch) (counts : ℕ → Count) → is_open (all_found ts counts) counts ≡ true
found_open [] counts = refl
found_open (t ∷ ts) counts = both (is_met (found_as t.mode t.object (counts t.object)) counts) (is_open (all_found ts counts) counts) (met t.mode t.object counts) (found_open ts counts)

of_touch : (m : Mode) (o : ℕ) (c : Count) → is_of (record { object = o; mode = m }) (found_as m o c) ≡ true
of_touch Read o c = both (o == o) true ((Decides-eqb o o).1 refl) refl
of_touch Write o c = both (o == o) true ((Decides-eqb o o).1 refl) refl

pub found_of : (ts : List Touch) (counts : ℕ → Count) → are_of ts (all_found ts counts) ≡ true
found_of [] counts = refl
found_of (t ∷ ts) counts = both (is_of t (found_as t.mode t.object (counts t.object))) (are_of ts (all_found ts counts)) (of_touch t.mode t.object (counts t.object)) (found_of ts counts)

own_entry : (t : ℕ) (e : Entry) → cond (t == t) (e ∷ []) [] ≡ e ∷ []
own_entry t e = ap (λ b. cond b (e ∷ []) []) ((Decides-eqb t t).1 refl)

-- ---- runs

module _ {State Op Reply Value Fixed : Type 0} (space : Space Op Reply Value Fixed) (code : Code State Op Reply Fixed) where
  pub takes : (m : Memory Value Fixed) (op : Op) (n : Next Op) → step_of_next space m n Go ≡ step.Event op → TakesReply n
  takes m op next.Local h = absurd cc
  takes m op (next.Ask p) h = tt
  takes m op (next.Asleep resume out) h = tt
  takes m op (next.Halted outcome) h = absurd cc

  module _ {L : Type 0} (log : L → Log) (rules : CodeLaws space code) (claims : Log) (t : ℕ) (e : End) (ends : claims.end t ≡ Some (Known e)) (limit : e.steps ≤ 1000000000) where
    -- the log stands at the thread's place
    record StandsAt (f : LogPlace L) (x : ThreadAt State) : Type 0 where
      pub same : log f.log ≡ claims
      pub thread : f.thread ≡ t
      pub place : f.place ≡ x.places
      pub places : f.places ≡ e.places

    -- the thread may make so many steps more
    record MayGo (n : ℕ) (w : WorldAt State Value Fixed) (f u : LogPlace L) : Type 0 where
      pub thread : ThreadAt State
      pub is : slice_get w.threads t ≡ Some thread
      pub stands : StandsAt f thread
      pub few : code.steps thread.state + n ≤ e.steps
      pub run : IsRun space code w (goes t n)
      pub put : put_all (follow log) f (entries space code w (goes t n) t) ≡ Some u

    gated_by : (n : ℕ) (w : WorldAt State Value Fixed) (f u : LogPlace L) (x : ThreadAt State) → slice_get w.threads t ≡ Some x → StandsAt f x → code.steps x.state + suc n ≤ e.steps
        → ((v : WorldAt State Value Fixed) (g : LogPlace L) → MayGo n v g u → IsGatedRun space code claims v (goes t n))
        → (s : PickStep Op) → step_of_pick space code w (go_of t) ≡ s → is_enabled s ≡ true → IsRun space code (world_after_step space code w t s) (goes t n)
        → put_all (follow log) f (entries_of_step space w.memory t t s ++ entries space code (world_after_step space code w t s) (goes t n) t) ≡ Some u
        → MeetsLog space (claims.entry t x.places) x.places e.places w.memory s × IsGatedRun space code claims (world_after_step space code w t s) (goes t n)
    gated_by n w f u x is at few rest (step.Refused fault) q on run put = absurd cc
    gated_by n w f u x is at few rest step.Local q on run put =
        let k = thread_local space code w.memory (slice_get w.threads t) Go q in
        let same : k.0 ≡ x = same_Some _ _ (sym k.1 ∙ is) in
        let more = rules.local_steps x.state (subst (λ (y : ThreadAt State). code.next y.state ≡ next.Local) same k.2.next) in
        let v : WorldAt State Value Fixed = record { threads = change_at w.threads t (thread_after_local code); memory = w.memory } in (
          tt,
          rest v f (record {
            thread = thread_after_local code x;
            is = get_same (thread_after_local code) w.threads t x is;
            stands = record { same = at.same; thread = at.thread; place = at.place; places = at.places };
            few = omega (arith, few, more);
            run = run;
            put = put;
          }),
        )
    gated_by n w f u x is at few rest (step.Event op) q on run put =
        let reply = reply_of space w.memory.fixed w.memory.values op in
        let small : code.steps x.state < 1000000000 = omega (arith, few, limit) in
        let asks = takes w.memory op (code.next x.state) (sym (step_some space code w (go_of t) x is small) ∙ q) in
        let more = rules.take_steps x.state reply asks in
        let entry = entry_of space w.memory op in
        let v : WorldAt State Value Fixed = record { threads = change_at w.threads t (thread_after_reply code reply); memory = memory_after space w.memory op } in
        let others = entries space code v (goes t n) t in
        option_and_then_some (λ y. put_all (follow log) y others) (follow log f entry) u (sym (ap (λ l. put_all (follow log) f (l ++ others)) (own_entry t entry)) ∙ put)
        (λ g one rest_put.
        let k = follows log f g entry one in
        let place = at.place in
        let places = at.places in
        let below : x.places < e.places = let b = k.below in omega (arith, b, place, places) in
        let claimed : claims.entry t x.places ≡ Some (Known entry) =
        ap (λ (l : Log). l.entry t x.places) (sym at.same) ∙ ap (λ i. (log f.log).entry i x.places) (sym at.thread) ∙ ap (λ i. (log f.log).entry f.thread i) (sym at.place) ∙ k.claimed in (
          (below, record { item = entry; is_known = claimed; opens = found_open (space.touches op) w.memory.counts; same_kind = refl; same_touches = found_of (space.touches op) w.memory.counts }),
          rest v g (record {
            thread = thread_after_reply code reply x;
            is = get_same (thread_after_reply code reply) w.threads t x is;
            stands = record {
              same = ap (λ (y : LogPlace L). log y.log) (sym k.next) ∙ at.same;
              thread = ap (λ (y : LogPlace L). y.thread) (sym k.next) ∙ at.thread;
              place = ap (λ (y : LogPlace L). y.place) (sym k.next) ∙ ap (λ i. i + 1) at.place;
              places = ap (λ (y : LogPlace L). y.places) (sym k.next) ∙ at.places;
            };
            few = omega (arith, few, more);
            run = run;
            put = rest_put;
          }),
        ))

    gated : (n : ℕ) (w : WorldAt State Value Fixed) (f u : LogPlace L) → MayGo n w f u → IsGatedRun space code claims w (goes t n)
    gated zero w f u m = tt
    gated (suc n) w f u m =
        let r = gated_by n w f u m.thread m.is m.stands m.few (λ v g k. gated n v g u k) (step_of_pick space code w (go_of t)) refl m.run.0 m.run.1 m.put in
        let few = m.few in (record { thread = m.thread; exists = m.is; end = e; is_known = ends; below = omega (arith, few); meets = r.0 }, r.1)

    -- a run of the thread whose entries the log takes
    pub thread_run_leads : (n : ℕ) (w v : WorldAt State Value Fixed) (f u : LogPlace L) (x : ThreadAt State) → slice_get w.threads t ≡ Some x → log f.log ≡ claims → f.thread ≡ t → f.place ≡ x.places → f.places ≡ e.places → code.steps x.state + n ≤ e.steps
        → IsThreadRun space code (follow log) t n w v f u → Leads space code claims w v
    thread_run_leads n w v f u x is same thread place places few r = record {
      picks = goes t n;
      gated = gated n w f u (record { thread = x; is = is; stands = record { same = same; thread = thread; place = place; places = places }; few = few; run = r.run; put = r.log });
      leads = r.leads;
    }

  -- where a run with a log of entries leads, and the log behind it
  pub record Went {L : Type 0} (log : L → Log) (l : L) (w v : WorldAt State Value Fixed) (u : LogPlace L) : Type 0 where
    pub leads : Leads space code (log l) w v
    pub same : u.log ≡ l

  pub went : {L : Type 0} (log : L → Log) → CodeLaws space code → (l : L) → HasLimits (log l) → (t n : ℕ) (w v : WorldAt State Value Fixed) (e : End) (f u : LogPlace L) (steps place : ℕ) → (log l).end t ≡ Some (Known e)
      → Some steps ≡ option_map (λ x. code.steps x.state) (slice_get w.threads t) → Some place ≡ option_map (λ x. x.places) (slice_get w.threads t) → f ≡ record { log = l; thread = t; place = place; places = e.places }
      → steps < e.steps → n ≤ e.steps - steps → IsThreadRun space code (follow log) t n w v f u → Went log l w v u
  went {L = L} log rules l limits t n w v e f u steps place ends made logged stands below few r =
      let x = made_of (λ y. code.steps y.state) (slice_get w.threads t) steps (sym made) in
      let y = made_of (λ z. z.places) (slice_get w.threads t) place (sym logged) in
      let here : x.0.places ≡ place = ap (λ (z : ThreadAt State). z.places) (same_Some _ _ (sym x.1 ∙ y.1)) ∙ y.2 in
      let count = x.2 in
      record {
        leads =
            thread_run_leads log rules (log l) t e ends (limits t e ends) n w v f u x.0 x.1 (ap (λ (z : LogPlace L). log z.log) stands) (ap (λ (z : LogPlace L). z.thread) stands)
            (ap (λ (z : LogPlace L). z.place) stands ∙ sym here) (ap (λ (z : LogPlace L). z.places) stands) (omega (arith, count, below, few)) r;
        same = same_log log f u (entries space code w (goes t n) t) r.log ∙ ap (λ (z : LogPlace L). z.log) stands;
      }
