-- The recorded log of a run keeps the rules of pieces.
use Rattle.std.proofs.Common.{◌≡◌, ℕ, ◌+◌, ◌<◌, ◌≤◌, ◌⊎◌, ◌==◌, ◌&&◌, Bool, true, false, cond, List, [], ◌∷◌, length, Option, Some, None, slice_get, nat_lt, refl, sym, ap, ◌∙◌, subst, arith, inl, inr}
use Rattle.std.specs.Prelude.{option_map, option_and_then, nat_le}
use Rattle.std.specs.List.{list_all}
use Rattle.std.proofs.lemmas.List.{length-map}
use Rattle.std.proofs.lemmas.List.Folds.{list_all-append}
use Rattle.std.proofs.lemmas.Bool.{cases_lt, lt-ltb, le-leb}
use Rattle.std.proofs.lemmas.Option.{slice_get_cases, slice_get_within}
use Rattle.wasm_types.specs.declared.key.RunKey.{RunKey}
use Rattle.rw_objects.specs.declared.touch.Mode.{Mode}
use Rattle.rw_objects.specs.declared.touch.Mode.TheVariants.{Read, Write}
use Rattle.rw_objects.specs.declared.touch.Touch.{Touch}
use Rattle.rw_objects.specs.declared.count.Count.{Count}
use Rattle.rw_objects.specs.Touch.{object_of}
use Rattle.rw_objects.specs.Space.{Space, SpaceLaws, Fits, RisesFrom, AllBelow}
use Rattle.rw_objects.specs.Counts.{found_as, found_by, all_found}
use Rattle.rw_objects.specs.Code.{Code, CodeLaws}
use Rattle.rw_objects.specs.Memory.{Memory, entry_of}
use Rattle.event_core.specs.declared.pick.Pick.{Pick}
use Rattle.event_core.specs.declared.step.PickStep.{PickStep}
use Rattle.event_core.specs.declared.step.PickStep.TheVariants as step
use Rattle.event_core.specs.Threads.{ThreadAt}
use Rattle.event_core.specs.World.{WorldAt, step_of_pick, world_after, world_after_step}
use Rattle.event_core.specs.Run.{entries, entries_of_step, world_run}
use Rattle.event_core.specs.Sound.{IsSound}
use Rattle.event_core.proofs.SoundSteps.{event_of}
use Rattle.event_core.proofs.Opens.{opening_is_sound}
use Rattle.event_core.proofs.Places.{places_count_entries}
use Rattle.log_pieces.specs.declared.end.End.{End}
use Rattle.log_pieces.specs.Piece.{greatest_object, is_entry, rises, objects_fit}
use Rattle.replay_laws.specs.Log.{Log, known}
use Rattle.replay_laws.specs.RunLog.{run_log, end_of_thread}
use Rattle.replay_laws.specs.Laws.{IsWholeRun}
use Rattle.replay_laws.proofs.Picks.{kept_run}
use Rattle.recorder.specs.ThreadLogAt.{ThreadLogAt, log_of}
use Rattle.recorder.proofs.Ends.{made_of}
use Rattle.run_pieces.specs.Keeps.{KeepsThread}
use Rattle.run_pieces.specs.Laws.{RecordedRunsKeepRules}
use Rattle.run_pieces.proofs.Parts.{and_true, same_list}

-- ---- an entry of touches

object_is : (mode : Mode) (o : ℕ) (c : Count) → object_of (found_as mode o c) ≡ o
object_is Read o c = refl
object_is Write o c = refl

is_below : (t u : Touch) (c d : Count) → t.object < u.object → nat_lt (object_of (found_by t c)) (object_of (found_by u d)) ≡ true
is_below t u c d l = rw (object_is t.mode t.object c, object_is u.mode u.object d) (lt-ltb t.object u.object l)

touches_rise : (n : ℕ) (ts : List Touch) (counts : ℕ → Count) → RisesFrom n ts → rises (all_found ts counts) ≡ true
touches_rise n [] counts h = refl
touches_rise n (t ∷ []) counts h = refl
touches_rise n (t ∷ u ∷ ts) counts h =
    and_true (nat_lt (object_of (found_by t (counts t.object))) (object_of (found_by u (counts u.object)))) (rises (all_found (u ∷ ts) counts))
    (is_below t u (counts t.object) (counts u.object) (omega (arith, h.1.0)))
    (touches_rise (t.object + 1) (u ∷ ts) counts h.1)

fits_in : (greatest : ℕ) (t : Touch) (c : Count) → t.object ≤ greatest → nat_le (object_of (found_by t c)) greatest ≡ true
fits_in greatest t c l = rw object_is (le-leb t.object greatest l)

touches_fit : (greatest n : ℕ) (ts : List Touch) (counts : ℕ → Count) → n ≤ greatest + 1 → AllBelow n ts → objects_fit greatest (all_found ts counts) ≡ true
touches_fit greatest n [] counts most h = refl
touches_fit greatest n (t ∷ ts) counts most h =
    and_true (nat_le (object_of (found_by t (counts t.object))) greatest) (objects_fit greatest (all_found ts counts)) (fits_in greatest t (counts t.object) (omega (arith, h.0, most))) (touches_fit greatest n ts counts most h.1)

if_all : {A : Type 0} (f : A → Bool) (b : Bool) (x : A) → f x ≡ true → list_all f (cond b (x ∷ []) []) ≡ true
if_all f true x h = and_true (f x) true h refl
if_all f false x h = refl

known_same : {A : Type 0} (a b : Option A) → known a ≡ known b → a ≡ b
known_same None None h = refl
known_same None (Some y) h = absurd cc
known_same (Some x) None h = absurd cc
known_same (Some x) (Some y) h = cc

module _ {State Op Reply Value Fixed : Type 0} (space : Space Op Reply Value Fixed) (code : Code State Op Reply Fixed) (laws : SpaceLaws space) (rules : CodeLaws space code) where
  entry_keeps : (greatest : ℕ) (m : Memory Value Fixed) (op : Op) → space.objects m.fixed ≤ greatest + 1 → Fits space m.fixed op → is_entry greatest (entry_of space m op) ≡ true
  entry_keeps greatest m op most fits =
      let found = all_found (space.touches op) m.counts in
      let counted : length found ≡ length (space.touches op) = length-map (space.touches op) (λ (t : Touch). found_by t (m.counts t.object)) in
      and_true ((nat_lt 0 (length found) && nat_le (length found) 3) && rises found) (objects_fit greatest found)
      (and_true (nat_lt 0 (length found) && nat_le (length found) 3) (rises found)
      (and_true (nat_lt 0 (length found)) (nat_le (length found) 3) (lt-ltb 0 (length found) (omega (arith, counted, laws.some_touch m.fixed op fits))) (le-leb (length found) 3 (omega (arith, counted, laws.at_most m.fixed op fits))))
      (touches_rise 0 (space.touches op) m.counts (laws.rising m.fixed op fits)))
      (touches_fit greatest (space.objects m.fixed) (space.touches op) m.counts most fits.below)

  step_keeps : (greatest : ℕ) (w : WorldAt State Value Fixed) (p : Pick) (t : ℕ) → IsSound code w.threads w.memory → space.objects w.memory.fixed ≤ greatest + 1
      → (j : PickStep Op) → step_of_pick space code w p ≡ j → list_all (is_entry greatest) (entries_of_step space w.memory p.thread t j) ≡ true
  step_keeps greatest w p t sound most (step.Refused f) e = refl
  step_keeps greatest w p t sound most step.Local e = refl
  step_keeps greatest w p t sound most (step.Event op) e =
      if_all (is_entry greatest) (p.thread == t) (entry_of space w.memory op) (entry_keeps greatest w.memory op most (event_of space code laws rules w p op e sound).2.made.fits)

  fixed_after : (w : WorldAt State Value Fixed) (t : ℕ) (j : PickStep Op) → (world_after_step space code w t j).memory.fixed ≡ w.memory.fixed
  fixed_after w t (step.Refused f) = refl
  fixed_after w t step.Local = refl
  fixed_after w t (step.Event op) = refl

  entries_keep : (greatest : ℕ) (w : WorldAt State Value Fixed) (ps : List Pick) (t : ℕ) → IsSound code w.threads w.memory → space.objects w.memory.fixed ≤ greatest + 1
      → list_all (is_entry greatest) (entries space code w ps t) ≡ true
  entries_keep greatest w [] t sound most = refl
  entries_keep greatest w (p ∷ ps) t sound most =
      let j = step_of_pick space code w p in
      let v = world_after space code w p in
      let same : v.memory.fixed ≡ w.memory.fixed = fixed_after w p.thread j in
      let more : space.objects v.memory.fixed ≤ greatest + 1 = subst (λ f. space.objects f ≤ greatest + 1) (sym same) most in
      list_all-append (is_entry greatest) (entries_of_step space w.memory p.thread t j) (entries space code v ps t)
      ∙ and_true (list_all (is_entry greatest) (entries_of_step space w.memory p.thread t j)) (list_all (is_entry greatest) (entries space code v ps t)) (step_keeps greatest w p t sound most j refl)
      (entries_keep greatest v ps t (kept_run space code laws rules w (p ∷ []) sound) more)

  module _ (w : WorldAt State Value Fixed) (ps : List Pick) (whole : IsWholeRun space code w ps) (threads : List ThreadLogAt) (same : log_of threads ≡ run_log space code w ps) where
    -- the thread whose log it is
    thread_of : (t : ℕ) (log : ThreadLogAt) → slice_get threads t ≡ Some log → (thread : ThreadAt State) × (slice_get (world_run space code w ps).threads t ≡ Some thread) × (end_of_thread code thread ≡ log.end)
    thread_of t log e =
        let ends = known_same (option_map (λ l. l.end) (slice_get threads t)) (option_map (end_of_thread code) (slice_get (world_run space code w ps).threads t)) (ap (λ (l : Log). l.end t) same) in
        made_of (end_of_thread code) (slice_get (world_run space code w ps).threads t) log.end (sym ends ∙ ap (option_map (λ (l : ThreadLogAt). l.end)) e)

    entries_are : (t : ℕ) (log : ThreadLogAt) → slice_get threads t ≡ Some log → log.entries ≡ entries space code w ps t
    entries_are t log e =
        same_list log.entries (entries space code w ps t)
        (λ p.
        sym (ap (option_and_then (λ (l : ThreadLogAt). slice_get l.entries p)) e)
        ∙ known_same (option_and_then (λ l. slice_get l.entries p) (slice_get threads t)) (slice_get (entries space code w ps t) p) (ap (λ (l : Log). l.entry t p) same))

    sound : IsSound code (world_run space code w ps).threads (world_run space code w ps).memory
    sound = kept_run space code laws rules w ps (opening_is_sound code w whole.opening)

    few_threads : (length threads ≤ 16) ⊎ (16 < length threads) → length threads ≤ 16
    few_threads (inl l) = l
    few_threads (inr l) =
        elim (slice_get_cases threads 16).1 [
          | inl h ↦
              let thread = thread_of 16 h.0 h.2 in
              absurd (omega (arith, slice_get_within (world_run space code w ps).threads 16 thread.0 thread.1, sound.few))
          | inr h ↦ absurd (omega (arith, h.0, l))
        ]

    thread_keeps : (key : RunKey) → space.objects w.memory.fixed ≤ greatest_object key.profile + 1 → (t : ℕ) (log : ThreadLogAt) → slice_get threads t ≡ Some log → KeepsThread key.profile log
    thread_keeps key most t log e =
        let thread = thread_of t log e in
        let kept = sound.each t thread.0 thread.1 in
        let are = entries_are t log e in
        let steps : code.steps thread.0.state ≡ log.end.steps = ap (λ (x : End). x.steps) thread.2 in
        let places : thread.0.places ≡ log.end.places = ap (λ (x : End). x.places) thread.2 in
        record {
          places = sym places ∙ (places_count_entries space code w whole.opening ps t thread.0 thread.1 ∙ sym (ap length are));
          steps = omega (arith, steps, places, kept.places);
          limit = omega (arith, steps, kept.steps);
          entries = subst (λ es. list_all (is_entry (greatest_object key.profile)) es ≡ true) (sym are) (entries_keep (greatest_object key.profile) w ps t (opening_is_sound code w whole.opening) most);
        }

  pub recorded_runs_keep_rules : RecordedRunsKeepRules space code
  recorded_runs_keep_rules w ps whole key most threads same = record {
    few = few_threads w ps whole threads same (elim (cases_lt 16 (length threads)) [ inl l ↦ inr l | inr l ↦ inl l ]);
    each = λ t log e. thread_keeps w ps whole threads same key most t log e;
  }
