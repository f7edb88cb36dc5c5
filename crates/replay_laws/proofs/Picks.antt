-- Logs and gated runs of picks, as the laws see them.
use Rattle.std.proofs.Common.{suc, ◌≡◌, ℕ, ◌<◌, ◌==◌, Bool, true, false, cond, List, [], ◌∷◌, ◌++◌, length, map, Option, Some, None, slice_get, option_map, refl, sym, eq-eqb, ap, ◌∙◌, subst, arith, inl, inr}
use Rattle.std.specs.Prelude.{◌&&◌}
use Rattle.std.proofs.Math.Path.{fun_ext}
use Rattle.std.proofs.lemmas.Bool.Decides.{eqb_tells}
use Rattle.std.proofs.lemmas.Bool.{lt-ltb, le-ltb}
use Rattle.std.proofs.lemmas.Option.{slice_get_cases}
use Rattle.rw_objects.specs.declared.touch.Mode.{Mode}
use Rattle.rw_objects.specs.declared.touch.Mode.TheVariants.{Read, Write}
use Rattle.rw_objects.specs.declared.touch.Touch.{Touch as Touched}
use Rattle.rw_objects.specs.declared.entry.Entry.{Entry}
use Rattle.rw_objects.specs.declared.touch.Found.{Found}
use Rattle.rw_objects.specs.declared.touch.Found.TheVariants as found
use Rattle.rw_objects.specs.declared.count.Count.{Count}
use Rattle.rw_objects.specs.Space.{Space, SpaceLaws}
use Rattle.rw_objects.specs.Counts.{all_found}
use Rattle.rw_objects.specs.Code.{Code, CodeLaws}
use Rattle.rw_objects.specs.Memory.{entry_of}
use Rattle.event_core.specs.declared.pick.Pick.{Pick}
use Rattle.event_core.specs.declared.step.PickStep.{PickStep}
use Rattle.event_core.specs.declared.step.PickStep.TheVariants as step
use Rattle.event_core.specs.Threads.{ThreadAt}
use Rattle.event_core.specs.Sound.{IsSound}
use Rattle.event_core.specs.World.{WorldAt, step_of_pick, world_after, world_after_step}
use Rattle.event_core.specs.End.{outcome_of}
use Rattle.event_core.specs.PickStep.{is_enabled}
use Rattle.event_core.specs.Run.{IsRun as AreEnabled, world_run, entries, entries_of_step, run_end}
use Rattle.log_pieces.specs.declared.end.End.{End}
use Rattle.log_pieces.specs.declared.flat.Flat.TheVariants.{Known}
use Rattle.replay_laws.specs.Log.{Log}
use Rattle.replay_laws.proofs.System.{ReadOf, WriteOf, System}
use Rattle.replay_laws.proofs.Worlds.{touch_of, touches_of, IsOpening}
use Rattle.replay_laws.proofs.Logs.{own, entries_of, IsOpen, IsEventLet, IsLet, IsGated, IsFinished as IsFinishedView, log_of, end_at, IsSameEnd}
use Rattle.replay_laws.specs.Log.{known, IsBelow, IsBelowLog}
use Rattle.replay_laws.proofs.Views.{met_by, met_as, state_at, steps_at, places_at, outcome_at, system_of, view, entry_if, happening, happenings}
use Rattle.replay_laws.specs.Gates.{is_open, is_of, are_of, MeetsLog, LetsPass, IsGatedRun, IsFinished}
use Rattle.replay_laws.specs.RunLog.{end_of_thread, run_log}
use Rattle.event_core.specs.Opening.{IsOpeningWorld}
use Rattle.replay_laws.proofs.Bridge.{step_is, kept_after, same_system}

pub both : (b c : Bool) → (b && c) ≡ true → (b ≡ true) × (c ≡ true)
both true c h = (refl, h)
both false c h = absurd (cc)

pub same_numbers : (a b : ℕ) → (a == b) ≡ true → a ≡ b
same_numbers a b h = elim (eqb_tells a b) [ inl e ↦ e.1 | inr e ↦ absurd (let k : false ≡ true = sym e.0 ∙ h in cc) ]

own_event : (b : Bool) (e : Entry) (es : List Entry) → own b (Some e) es ≡ cond b (e ∷ []) [] ++ es
own_event true e es = refl
own_event false e es = refl

own_none : (b : Bool) (es : List Entry) → own b None es ≡ es
own_none true es = refl
own_none false es = refl

touches_head : (m : Mode) (o : ℕ) (ts : List Touched) (counts : ℕ → Count) → touches_of (all_found ts counts) ≡ map met_by ts → touches_of (all_found (record { object = o; mode = m } ∷ ts) counts) ≡ met_as m o ∷ map met_by ts
touches_head Read o ts counts e = ap (λ l. ReadOf o ∷ l) e
touches_head Write o ts counts e = ap (λ l. WriteOf o ∷ l) e

pub touches_all : (ts : List Touched) (counts : ℕ → Count) → touches_of (all_found ts counts) ≡ map met_by ts
touches_all [] counts = refl
touches_all (t ∷ ts) counts = touches_head t.mode t.object ts counts (touches_all ts counts)

of_is : (m : Mode) (o : ℕ) (f : Found) → is_of (record { object = o; mode = m }) f ≡ true → met_as m o ≡ touch_of f
of_is Read o (found.Read p v) h = ap ReadOf (same_numbers o p (both _ _ h).0)
of_is Read o (found.Write p v r) h = absurd (let k : false ≡ true = (both (o == p) false h).1 in cc)
of_is Write o (found.Read p v) h = absurd (let k : false ≡ true = (both (o == p) false h).1 in cc)
of_is Write o (found.Write p v r) h = ap WriteOf (same_numbers o p (both _ _ h).0)

pub are_is : (ts : List Touched) (fs : List Found) → are_of ts fs ≡ true → map met_by ts ≡ touches_of fs
are_is [] [] h = refl
are_is [] (f ∷ fs) h = absurd (cc)
are_is (t ∷ ts) [] h = absurd (cc)
are_is (t ∷ ts) (f ∷ fs) h =
    let e = both _ _ h in
    ap (λ x. x ∷ map met_by ts) (of_is t.mode t.object f e.0) ∙ ap (λ l. touch_of f ∷ l) (are_is ts fs e.1)

pub both_true : (b c : Bool) → b ≡ true → c ≡ true → (b && c) ≡ true
both_true true c e f = f
both_true false c e f = absurd (cc)

of_back : (m : Mode) (o : ℕ) (f : Found) → met_as m o ≡ touch_of f → is_of (record { object = o; mode = m }) f ≡ true
of_back Read o (found.Read p v) h = let e : o ≡ p = cc in both_true (o == p) true (eq-eqb o p e) refl
of_back Read o (found.Write p v r) h = absurd (cc)
of_back Write o (found.Read p v) h = absurd (cc)
of_back Write o (found.Write p v r) h = let e : o ≡ p = cc in both_true (o == p) true (eq-eqb o p e) refl

pub are_back : (ts : List Touched) (fs : List Found) → map met_by ts ≡ touches_of fs → are_of ts fs ≡ true
are_back [] [] h = refl
are_back [] (f ∷ fs) h = absurd (cc)
are_back (t ∷ ts) [] h = absurd (cc)
are_back (t ∷ ts) (f ∷ fs) h =
    let e : met_by t ≡ touch_of f = cc in
    let l : map met_by ts ≡ touches_of fs = cc in
    both_true (is_of t f) (are_of ts fs) (of_back t.mode t.object f e) (are_back ts fs l)

-- two lists of which each place looks the same
maps_same : {A B : Type 0} (f : A → B) (g : Option A → B) → ((a : A) → g (Some a) ≡ f a) → (xs ys : List A) → length xs ≡ length ys → ((t : ℕ) → t < length xs → g (slice_get xs t) ≡ g (slice_get ys t)) → map f xs ≡ map f ys
maps_same f g is [] [] n h = refl
maps_same f g is [] (y ∷ ys) n h = absurd (omega (arith, n))
maps_same f g is (x ∷ xs) [] n h = absurd (omega (arith, n))
maps_same f g is (x ∷ xs) (y ∷ ys) n h =
    ap (λ z. z ∷ map f xs) (sym (is x) ∙ h 0 (omega arith) ∙ is y)
    ∙ ap (λ l. f y ∷ l) (maps_same f g is xs ys (omega (arith, n)) (λ t l. h (suc t) (omega (arith, l))))

module _ {State Op Reply Value Fixed : Type 0} (space : Space Op Reply Value Fixed) (code : Code State Op Reply Fixed) where
  -- the entries of a run
  pub entries_is : (w : WorldAt State Value Fixed) (ps : List Pick) (t : ℕ) → entries_of t (happenings space code w ps) ≡ entries space code w ps t
  entries_is w [] t = refl
  entries_is w (p ∷ ps) t =
      let v = world_after space code w p in
      go (step_of_pick space code w p) (entries_of t (happenings space code v ps)) ∙ ap (λ l. entries_of_step space w.memory p.thread t (step_of_pick space code w p) ++ l) (entries_is v ps t)
    where
      go : (j : PickStep Op) (es : List Entry) → own (p.thread == t) (entry_if space code w.memory j) es ≡ entries_of_step space w.memory p.thread t j ++ es
      go (step.Refused f) es = own_none (p.thread == t) es
      go step.Local es = own_none (p.thread == t) es
      go (step.Event op) es = own_event (p.thread == t) (entry_of space w.memory op) es

  -- the ends of a world
  ends_is : (fixed : Fixed) (u : WorldAt State Value Fixed) (t : ℕ) → end_at (system_of space code fixed (length u.threads)) (view space code u) t ≡ known (option_map (end_of_thread code) (slice_get u.threads t))
  ends_is fixed u t =
      elim (slice_get_cases u.threads t).1 [
        | inl e ↦
            ap (λ b. cond b (Some (Known (seen (slice_get u.threads t)))) None) (lt-ltb t (length u.threads) e.1)
            ∙ ap (λ o. Some (Known (seen o))) e.2
            ∙ sym (ap (λ o. known (option_map (end_of_thread code) o)) e.2)
        | inr e ↦
            ap (λ b. cond b (Some (Known (seen (slice_get u.threads t)))) None) (le-ltb t (length u.threads) e.0)
            ∙ sym (ap (λ o. known (option_map (end_of_thread code) o)) e.1)
      ]
    where
      seen : Option (ThreadAt State) → End
      seen o = record { steps = steps_at code o; places = places_at code o; outcome = outcome_at code (state_at code o) }

  pub open_back : (w : WorldAt State Value Fixed) (fs : List Found) → IsOpen fs (view space code w) → is_open fs w.memory.counts ≡ true
  open_back w [] h = refl
  open_back w (found.Read o v ∷ fs) h = both_true ((w.memory.counts o).version == v) (is_open fs w.memory.counts) (eq-eqb _ _ h.0) (open_back w fs h.1)
  open_back w (found.Write o v r ∷ fs) h =
      both_true (((w.memory.counts o).version == v) && ((w.memory.counts o).reads == r)) (is_open fs w.memory.counts)
      (both_true ((w.memory.counts o).version == v) ((w.memory.counts o).reads == r) (eq-eqb _ _ h.0) (eq-eqb _ _ h.1)) (open_back w fs h.2)

  module _ (laws : SpaceLaws space) (rules : CodeLaws space code) where
    pub kept_run : (w : WorldAt State Value Fixed) (ps : List Pick) → IsSound code w.threads w.memory → IsSound code (world_run space code w ps).threads (world_run space code w ps).memory
    kept_run w [] kept = kept
    kept_run w (p ∷ ps) kept = kept_run (world_after space code w p) ps (kept_after space code laws rules w p kept)

    pub same_run : (w : WorldAt State Value Fixed) (ps : List Pick) → system_of space code (world_run space code w ps).memory.fixed (length (world_run space code w ps).threads) ≡ system_of space code w.memory.fixed (length w.threads)
    same_run w [] = refl
    same_run w (p ∷ ps) = same_run (world_after space code w p) ps ∙ same_system space code laws rules w p

    pub same_length : (w : WorldAt State Value Fixed) (ps : List Pick) → length (world_run space code w ps).threads ≡ length w.threads
    same_length w ps = ap (λ (s : System Value Op Reply (Option State)). s.threads) (same_run w ps)

    -- the log of a run
    pub log_end_is : (w : WorldAt State Value Fixed) (ps : List Pick) (t : ℕ) → end_at (system_of space code w.memory.fixed (length w.threads)) (view space code (world_run space code w ps)) t ≡ (run_log space code w ps).end t
    log_end_is w ps t = ap (λ n. end_at (system_of space code w.memory.fixed n) (view space code (world_run space code w ps)) t) (sym (same_length w ps)) ∙ ends_is w.memory.fixed (world_run space code w ps) t

    pub below_is : (log : Log) (w : WorldAt State Value Fixed) (ps : List Pick) → IsBelowLog log (run_log space code w ps) → IsBelowLog log (log_of (system_of space code w.memory.fixed (length w.threads)) (happenings space code w ps) (view space code (world_run space code w ps)))
    below_is log w ps b =
        record {
          entries = λ t p. subst (λ es. IsBelow (log.entry t p) (known (slice_get es p))) (sym (entries_is w ps t)) (b.entries t p);
          ends = λ t. subst (IsBelow (log.end t)) (sym (log_end_is w ps t)) (b.ends t);
        }

    pub open_is : (w : WorldAt State Value Fixed) (fs : List Found) → is_open fs w.memory.counts ≡ true → IsOpen fs (view space code w)
    open_is w [] h = tt
    open_is w (found.Read o v ∷ fs) h = let e = both _ _ h in (same_numbers _ _ e.0, open_is w fs e.1)
    open_is w (found.Write o v r ∷ fs) h = let e = both _ _ h in let m = both _ _ e.0 in (same_numbers _ _ m.0, same_numbers _ _ m.1, open_is w fs e.1)

    pub passes_enabled : (log : Log) (w : WorldAt State Value Fixed) (p : Pick) → LetsPass space code log w p → is_enabled (step_of_pick space code w p) ≡ true
    passes_enabled log w p l = go (step_of_pick space code w p) l.meets
      where
        go : (j : PickStep Op) → MeetsLog space (log.entry p.thread l.thread.places) l.thread.places l.end.places w.memory j → is_enabled j ≡ true
        go (step.Refused f) m = absurd m
        go step.Local m = refl
        go (step.Event op) m = refl

    pub let_is : (log : Log) (w : WorldAt State Value Fixed) (p : Pick) → LetsPass space code log w p → IsLet log (happening space code w p)
    let_is log w p l =
        record {
          end = l.end;
          is_known = l.is_known;
          below = subst (λ o. steps_at code o < l.end.steps) (sym l.exists) l.below;
          event = go (step_of_pick space code w p) l.meets;
        }
      where
        place : places_at code (slice_get w.threads p.thread) ≡ l.thread.places
        place = ap (places_at code) l.exists

        go : (j : PickStep Op) → MeetsLog space (log.entry p.thread l.thread.places) l.thread.places l.end.places w.memory j → IsEventLet (log.entry p.thread (places_at code (slice_get w.threads p.thread))) l.end.places (happening space code w p) (entry_if space code w.memory j)
        go (step.Refused f) m = absurd m
        go step.Local m = tt
        go (step.Event op) m =
            record {
              place = let less : l.thread.places < l.end.places = m.0 in omega (arith, less, place);
              item = m.1.item;
              is_known = ap (log.entry p.thread) place ∙ m.1.is_known;
              is_open = open_is w m.1.item.found m.1.opens;
              same_kind = m.1.same_kind;
              same_touches = touches_all (space.touches op) w.memory.counts ∙ are_is (space.touches op) m.1.item.found m.1.same_touches;
            }

    -- a gated run
    pub gated_is : (log : Log) (w : WorldAt State Value Fixed) (gs : List Pick) → IsSound code w.threads w.memory → IsGatedRun space code log w gs → IsGated (system_of space code w.memory.fixed (length w.threads)) log (view space code w) (happenings space code w gs) (view space code (world_run space code w gs))
    gated_is log w [] kept g = refl
    gated_is log w (p ∷ ps) kept g =
        let v = world_after space code w p in (
          refl,
          step_is space code laws rules w p kept (passes_enabled log w p g.0),
          let_is log w p g.0,
          subst (λ s. IsGated s log (view space code v) (happenings space code v ps) (view space code (world_run space code v ps))) (same_system space code laws rules w p) (gated_is log v ps (kept_after space code laws rules w p kept) g.1),
        )

    pub gated_enabled : (log : Log) (w : WorldAt State Value Fixed) (gs : List Pick) → IsGatedRun space code log w gs → AreEnabled space code w gs
    gated_enabled log w [] g = tt
    gated_enabled log w (p ∷ ps) g = (passes_enabled log w p g.0, gated_enabled log (world_after space code w p) ps g.1)

    pub opening_is : (w : WorldAt State Value Fixed) → IsOpeningWorld code w → IsOpening (view space code w)
    opening_is w z x =
        elim (slice_get_cases w.threads x).1 [
          | inl e ↦ (ap (steps_at code) e.2 ∙ (z.fresh x e.0 e.2).no_steps, ap (places_at code) e.2 ∙ z.no_places x e.0 e.2, ap (λ c. c.version) (z.no_counts x), ap (λ c. c.reads) (z.no_counts x))
          | inr e ↦ (ap (steps_at code) e.1, ap (places_at code) e.1, ap (λ c. c.version) (z.no_counts x), ap (λ c. c.reads) (z.no_counts x))
        ]

    pub finished_is : (log : Log) (w : WorldAt State Value Fixed) (gs : List Pick) → IsFinished code log (world_run space code w gs) → IsFinishedView (system_of space code w.memory.fixed (length w.threads)) log (view space code (world_run space code w gs))
    finished_is log w gs f t l =
        let u = world_run space code w gs in
        elim (slice_get_cases u.threads t).1 [
          | inl e ↦ f t e.0 e.2 ∙ sym (ap (λ o. known (option_map (end_of_thread code) o)) e.2) ∙ sym (log_end_is w gs t)
          | inr e ↦ absurd (omega (arith, l, e.0, same_length w gs))
        ]

    pub same_ends : (w : WorldAt State Value Fixed) (gs ps : List Pick) → IsSameEnd (system_of space code w.memory.fixed (length w.threads)) (view space code (world_run space code w gs)) (view space code (world_run space code w ps)) → run_end space code w gs ≡ run_end space code w ps
    same_ends w gs ps e =
        let a = world_run space code w gs in
        let b = world_run space code w ps in
        let values : a.memory.values ≡ b.memory.values = fun_ext (λ o. e.0 o) in
        let fixed : a.memory.fixed ≡ b.memory.fixed = same_fixed w gs ∙ sym (same_fixed w ps) in
        let outcomes = maps_same (λ t. outcome_of (code.next t.state)) (λ o. outcome_at code (state_at code o)) (λ t. refl) a.threads b.threads (same_length w gs ∙ sym (same_length w ps)) (λ t l. e.1 t (omega (arith, l, same_length w gs))) in
        rw (values, fixed, outcomes) refl
      where
        same_fixed : (w : WorldAt State Value Fixed) (ps : List Pick) → (world_run space code w ps).memory.fixed ≡ w.memory.fixed
        same_fixed w [] = refl
        same_fixed w (p ∷ ps) = same_fixed (world_after space code w p) ps ∙ go (step_of_pick space code w p)
          where
            go : (j : PickStep Op) → (world_after_step space code w p.thread j).memory.fixed ≡ w.memory.fixed
            go (step.Refused f) = refl
            go step.Local = refl
            go (step.Event op) = refl
