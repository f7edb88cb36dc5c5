-- Each version of an object has one writer at most: an event that wrote one found the version before, and left it behind.
use Rattle.std.proofs.Common.{◌≡◌, ◌≢◌, ℕ, ◌+◌, ◌==◌, ◌<◌, ◌≤◌, Bool, true, false, cond, List, [], ◌∷◌, Option, Some, None, slice_get, refl, sym, ap, ◌∙◌, subst, arith, inl, inr}
use Rattle.std.specs.Prelude.{◌⊎◌, ◌||◌}
use Rattle.std.specs.List.{list_any}
use Rattle.std.proofs.lemmas.Bool.{cases_lt}
use Rattle.std.proofs.lemmas.Bool.Decides.{eqb_tells}
use Rattle.std.proofs.lemmas.Option.{same_Some}
use Rattle.rw_objects.specs.declared.count.Count.{Count}
use Rattle.rw_objects.specs.declared.touch.Mode.{Mode}
use Rattle.rw_objects.specs.declared.touch.Mode.TheVariants.{Read, Write}
use Rattle.rw_objects.specs.declared.touch.Touch.{Touch}
use Rattle.rw_objects.specs.declared.touch.Found.{Found}
use Rattle.rw_objects.specs.declared.touch.Found.TheVariants as found
use Rattle.rw_objects.specs.Space.{Space, SpaceLaws, RisesFrom, mode_at}
use Rattle.rw_objects.specs.Code.{Code, CodeLaws}
use Rattle.rw_objects.specs.Counts.{count_after_if}
use Rattle.event_core.specs.declared.pick.Pick.{Pick}
use Rattle.event_core.specs.declared.step.PickStep.{PickStep}
use Rattle.event_core.specs.declared.step.PickStep.TheVariants as step
use Rattle.event_core.specs.Opening.{IsOpeningWorld}
use Rattle.event_core.specs.Run.{world_run}
use Rattle.event_core.specs.Sound.{IsSound}
use Rattle.event_core.specs.Threads.{ThreadAt, change_at, thread_after_local, thread_after_reply}
use Rattle.event_core.specs.World.{WorldAt, step_of_pick, world_after, world_after_step}
use Rattle.event_core.proofs.LocalRuns.{get_same, get_other}
use Rattle.event_core.proofs.Opens.{opening_is_sound}
use Rattle.event_core.proofs.SoundSteps.{event_of}
use Rattle.replay_laws.specs.Gates.{is_met, is_open, is_of, are_of, MeetsEntry, MeetsLog, LetsPass, IsGatedRun}
use Rattle.replay_laws.specs.Log.{Log}
use Rattle.replay_laws.proofs.Bridge.{kept_after}
use Rattle.replay_laws.proofs.Picks.{both, same_numbers}
use Rattle.replay_session.specs.Writers.{writes_version, item_writes, HasWritten, OneWriterEach, VersionsHaveOneWriter}

either : (b c : Bool) → (b || c) ≡ true → (b ≡ true) ⊎ (c ≡ true)
either true c h = inl refl
either false c h = inr h

-- ---- what the touches of one event wrote

-- the version before was there as the gate stood open
met_version : (o v : ℕ) (f : Found) (counts : ℕ → Count) → is_met f counts ≡ true → writes_version o v f ≡ true → v ≡ (counts o).version + 1
met_version o v (found.Read p x) counts m h = absurd cc
met_version o v (found.Write p x r) counts m h =
    let w = both (p == o) (x + 1 == v) h in
    let at = both ((counts p).version == x) ((counts p).reads == r) m in
    let made = same_numbers (x + 1) v w.1 in
    let version = same_numbers (counts p).version x at.0 in
    let there = ap (λ k. (counts k).version) (same_numbers p o w.0) in
    omega (arith, made, version, there)

open_version : (o v : ℕ) (fs : List Found) (counts : ℕ → Count) → is_open fs counts ≡ true → list_any (writes_version o v) fs ≡ true → v ≡ (counts o).version + 1
open_version o v [] counts g h = absurd cc
open_version o v (f ∷ fs) counts g h =
    let gate = both (is_met f counts) (is_open fs counts) g in
    elim (either (writes_version o v f) (list_any (writes_version o v) fs) h) [
      | inl here ↦ met_version o v f counts gate.0 here
      | inr later ↦ open_version o v fs counts gate.1 later
    ]

-- the object is touched for writing
touch_written : (o v object : ℕ) (mode : Mode) (f : Found) → is_of (record { object = object; mode = mode }) f ≡ true → writes_version o v f ≡ true → (object ≡ o) × (mode ≡ Write)
touch_written o v object mode (found.Read p x) g h = absurd cc
touch_written o v object Read (found.Write p x r) g h = absurd (let k : false ≡ true = (both (object == p) false g).1 in cc)
touch_written o v object Write (found.Write p x r) g h = (same_numbers object p (both (object == p) true g).0 ∙ same_numbers p o (both (p == o) (x + 1 == v) h).0, refl)

mode_here : (o object : ℕ) (mode : Mode) (ts : List Touch) → object ≡ o → mode_at (record { object = object; mode = mode } ∷ ts) o ≡ Some mode
mode_here o object mode ts same = elim (eqb_tells object o) [
  | inl e ↦ ap (λ b. cond b (Some mode) (mode_at ts o)) e.0
  | inr e ↦ absurd (e.1 same)
]

mode_later : (o : ℕ) (t : Touch) (ts : List Touch) → t.object ≢ o → mode_at (t ∷ ts) o ≡ mode_at ts o
mode_later o t ts other = elim (eqb_tells t.object o) [
  | inl e ↦ absurd (other e.1)
  | inr e ↦ ap (λ b. cond b (Some t.mode) (mode_at ts o)) e.0
]

mode_written : (n o v : ℕ) (ts : List Touch) (fs : List Found) → RisesFrom n ts → are_of ts fs ≡ true → list_any (writes_version o v) fs ≡ true → (n ≤ o) × (mode_at ts o ≡ Some Write)
mode_written n o v [] [] r g h = absurd cc
mode_written n o v [] (f ∷ fs) r g h = absurd cc
mode_written n o v (t ∷ ts) [] r g h = absurd cc
mode_written n o v (t ∷ ts) (f ∷ fs) r g h =
    let touches = both (is_of t f) (are_of ts fs) g in
    let above : n ≤ t.object = r.0 in
    elim (either (writes_version o v f) (list_any (writes_version o v) fs) h) [
      | inl here ↦
          let w = touch_written o v t.object t.mode f touches.0 here in
          (omega (arith, above, w.0), mode_here o t.object t.mode ts w.0 ∙ ap Some w.1)
      | inr later ↦
          let rest = mode_written (t.object + 1) o v ts fs r.1 touches.1 later in
          (omega (arith, above, rest.0), mode_later o t ts (λ same. absurd (omega (arith, rest.0, same))) ∙ rest.1)
    ]

-- no version falls
version_kept : (mode : Option Mode) (c : Count) → c.version ≤ (count_after_if mode c).version
version_kept None c = omega arith
version_kept (Some Read) c = omega arith
version_kept (Some Write) c = omega arith

-- ---- the events that threads made

module _ {State Value Fixed : Type 0} (log : Log) where
  -- of a thread that changed, those that it had made before, or its last
  own : (w : WorldAt State Value Fixed) (i : ℕ) (th u : ThreadAt State) (o v p : ℕ) → slice_get w.threads i ≡ Some th → u.places ≤ th.places + 1 → p < u.places → item_writes o v (log.entry i p) ≡ true
      → HasWritten log w o v i p ⊎ ((p ≡ th.places) × (u.places ≡ th.places + 1))
  own w i th u o v p is few made writes =
      elim (cases_lt p th.places) [
        | inl l ↦ inl (record { at = th; exists = is; made = l; writes = writes })
        | inr l ↦ inr (omega (arith, few, made, l), omega (arith, few, made, l))
      ]

  -- behind one step of a thread: those of before, or that step
  parts : (w x : WorldAt State Value Fixed) (f : ThreadAt State → ThreadAt State) (i : ℕ) (th : ThreadAt State) → slice_get w.threads i ≡ Some th → x.threads ≡ change_at w.threads i f → (f th).places ≤ th.places + 1
      → (o v t p : ℕ) → HasWritten log x o v t p → HasWritten log w o v t p ⊎ ((t ≡ i) × (p ≡ th.places) × ((f th).places ≡ th.places + 1))
  parts w x f i th is change few o v t p h =
      elim (eqb_tells t i) [
        | inl e ↦
            let there : Some h.at ≡ Some (f th) = sym h.exists ∙ ap (λ ts. slice_get ts t) change ∙ ap (slice_get (change_at w.threads i f)) e.1 ∙ get_same f w.threads i th is in
            let same : h.at ≡ f th = same_Some h.at (f th) there in
            let made : p < (f th).places = subst (λ (y : ThreadAt State). p < y.places) same h.made in
            elim (own w i th (f th) o v p is few made (subst (λ k. item_writes o v (log.entry k p) ≡ true) e.1 h.writes)) [
              | inl old ↦ inl (subst (λ k. HasWritten log w o v k p) (sym e.1) old)
              | inr new ↦ inr (e.1, new.0, new.1)
            ]
        | inr e ↦ inl (record { at = h.at; exists = sym (get_other f w.threads i t e.1) ∙ ap (λ ts. slice_get ts t) (sym change) ∙ h.exists; made = h.made; writes = h.writes })
      ]

  none_opens : {Op Reply : Type 0} (code : Code State Op Reply Fixed) (w : WorldAt State Value Fixed) → IsOpeningWorld code w → OneWriterEach log w
  none_opens code w z = record {
    come = λ o v t p h. absurd (omega (arith, z.no_places t h.at h.exists, h.made));
    one = λ o v t p s q h k. absurd (omega (arith, z.no_places t h.at h.exists, h.made));
  }

module _ {State Op Reply Value Fixed : Type 0} (space : Space Op Reply Value Fixed) (code : Code State Op Reply Fixed) (laws : SpaceLaws space) (rules : CodeLaws space code) (log : Log) where
  module _ (w : WorldAt State Value Fixed) (p : Pick) (kept : IsSound code w.threads w.memory) (before : OneWriterEach log w) (let_pass : LetsPass space code log w p) where
    abbrev th : ThreadAt State
    th = let_pass.thread

    abbrev after : PickStep Op → WorldAt State Value Fixed
    after j = world_after_step space code w p.thread j

    -- a local step made no event
    locally : OneWriterEach log (after step.Local)
    locally = record {
      come = λ o v t q h. before.come o v t q (old o v t q h);
      one = λ o v t q s r h k. before.one o v t q s r (old o v t q h) (old o v s r k);
    }
      where
        old : (o v t q : ℕ) → HasWritten log (after step.Local) o v t q → HasWritten log w o v t q
        old o v t q h = elim (parts log w (after step.Local) (thread_after_local code) p.thread th let_pass.exists refl (omega arith) o v t q h) [
          | inl a ↦ a
          | inr a ↦ absurd (omega (arith, a.2))
        ]

    -- an event wrote the next version of each object that it wrote
    by_event : (op : Op) → step_of_pick space code w p ≡ step.Event op → MeetsEntry space (log.entry p.thread th.places) w.memory op → OneWriterEach log (after (step.Event op))
    by_event op q m = record {
      come = λ o v t r h. elim (cases o v t r h) [
        | inl a ↦ let c = before.come o v t r a in let k = version_kept (mode_at (space.touches op) o) (w.memory.counts o) in omega (arith, c, k)
        | inr a ↦ a.3
      ];
      one = λ o v t r s u h k. elim (cases o v t r h) [
        | inl a ↦ elim (cases o v s u k) [
          | inl b ↦ before.one o v t r s u a b
          | inr b ↦ absurd (let c = before.come o v t r a in omega (arith, c, b.2))
        ]
        | inr a ↦ elim (cases o v s u k) [
          | inl b ↦ absurd (let c = before.come o v s u b in omega (arith, c, a.2))
          | inr b ↦ (a.0 ∙ sym b.0, a.1 ∙ sym b.1)
        ]
      ];
    }
      where
        rises : RisesFrom 0 (space.touches op)
        rises = laws.rising w.memory.fixed op (event_of space code laws rules w p op q kept).2.made.fits

        -- its own
        wrote : (o v t r : ℕ) → t ≡ p.thread → r ≡ th.places → item_writes o v (log.entry t r) ≡ true → (v ≡ (w.memory.counts o).version + 1) × (v ≤ ((after (step.Event op)).memory.counts o).version)
        wrote o v t r a b h =
            let there : list_any (writes_version o v) m.item.found ≡ true = sym (ap (item_writes o v) (ap (λ k. log.entry k r) a ∙ ap (log.entry p.thread) b ∙ m.is_known)) ∙ h in
            let next = open_version o v m.item.found w.memory.counts m.opens there in
            let mode = (mode_written 0 o v (space.touches op) m.item.found rises m.same_touches there).1 in
            let made : (count_after_if (mode_at (space.touches op) o) (w.memory.counts o)).version ≡ (w.memory.counts o).version + 1 = ap (λ y. (count_after_if y (w.memory.counts o)).version) mode in
            (next, omega (arith, next, made))

        cases : (o v t r : ℕ) → HasWritten log (after (step.Event op)) o v t r → HasWritten log w o v t r ⊎ ((t ≡ p.thread) × (r ≡ th.places) × (v ≡ (w.memory.counts o).version + 1) × (v ≤ ((after (step.Event op)).memory.counts o).version))
        cases o v t r h = elim (parts log w (after (step.Event op)) (thread_after_reply code _) p.thread th let_pass.exists refl (omega arith) o v t r h) [
          | inl a ↦ inl a
          | inr a ↦ let e = wrote o v t r a.0 a.1 h.writes in inr (a.0, a.1, e.0, e.1)
        ]

    behind : OneWriterEach log (world_after space code w p)
    behind = go (step_of_pick space code w p) refl let_pass.meets
      where
        go : (j : PickStep Op) → step_of_pick space code w p ≡ j → MeetsLog space (log.entry p.thread th.places) th.places let_pass.end.places w.memory j → OneWriterEach log (after j)
        go (step.Refused f) q m = absurd m
        go step.Local q m = locally
        go (step.Event op) q m = by_event op q m.1

  on_run : (w : WorldAt State Value Fixed) (gs : List Pick) → IsSound code w.threads w.memory → OneWriterEach log w → IsGatedRun space code log w gs → OneWriterEach log (world_run space code w gs)
  on_run w [] kept before g = before
  on_run w (p ∷ ps) kept before g = on_run (world_after space code w p) ps (kept_after space code laws rules w p kept) (behind w p kept before g.0) g.1

  pub one_writer_each : (w : WorldAt State Value Fixed) → IsOpeningWorld code w → (gs : List Pick) → IsGatedRun space code log w gs → OneWriterEach log (world_run space code w gs)
  one_writer_each w z gs g = on_run w gs (opening_is_sound code w z) (none_opens log code w z) g

pub versions_have_one_writer : {State Op Reply Value Fixed : Type 0} (space : Space Op Reply Value Fixed) (code : Code State Op Reply Fixed) → SpaceLaws space → CodeLaws space code → VersionsHaveOneWriter space code
versions_have_one_writer space code laws rules w z log gs g = one_writer_each space code laws rules log w z gs g
