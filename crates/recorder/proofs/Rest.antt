-- What is left of a recording.
use Rattle.std.proofs.Common.{slice_set, get_or, ◌≡◌, ◌≢◌, ℕ, zero, suc, ◌<◌, ◌==◌, ◌&&◌, Bool, true, false, cond, List, [], ◌∷◌, ◌++◌, length, Some, replicate, sym, ap, ◌∙◌, refl, arith, inl, inr}
use Rattle.std.specs.Prelude.{Result, Ok, Err, OnOk, OnErr}
use Rattle.std.proofs.lemmas.List.{append-nil}
use Rattle.std.proofs.lemmas.Bool.Decides.{eqb_tells}
use Rattle.rw_objects.specs.Code.{Code}
use Rattle.rw_objects.specs.Space.{Space}
use Rattle.rw_objects.specs.declared.entry.Entry.{Entry}
use Rattle.event_core.specs.declared.pick.Pick.{Pick}
use Rattle.event_core.specs.declared.step.PickStep.{PickStep}
use Rattle.event_core.specs.declared.step.PickStep.TheVariants as step
use Rattle.event_core.specs.declared.step.Stepped.TheVariants as stepped
use Rattle.event_core.specs.Threads.{change_at}
use Rattle.event_core.specs.World.{WorldAt, step_of_pick, world_after, answer_of_step}
use Rattle.recorder.specs.Picks.{is_taken, picks_taken, picks_passed}
use Rattle.event_core.specs.Run.{entries, entries_of_step, world_run, IsRun}
use Rattle.recorder.specs.Picks.{step_taken, if_ok}
use Rattle.recorder.specs.Recorded.{list_at, entries_added, IsNoted}

second : (b c : Bool) → (b && c) ≡ true → c ≡ true
second true c h = h
second false c h = absurd (cc)

module _ {State Op Reply Value Fixed : Type 0} (space : Space Op Reply Value Fixed) (code : Code State Op Reply Fixed) where
  run_step : (steps : ℕ) (w : WorldAt State Value Fixed) (p : Pick) (ps : List Pick) (b : Bool) → is_taken space code steps w p ≡ b → IsRun space code (world_after space code w p) (picks_taken space code steps (world_after space code w p) ps) → IsRun space code w (picks_taken space code steps w ps) → IsRun space code w (cond b (p ∷ picks_taken space code steps (world_after space code w p) ps) (picks_taken space code steps w ps))
  run_step steps w p ps true e h k = (second _ _ e, h)
  run_step steps w p ps false e h k = k

  -- the picks that a recording takes are a run
  pub taken_is_run : (steps : ℕ) (w : WorldAt State Value Fixed) (ps : List Pick) → IsRun space code w (picks_taken space code steps w ps)
  taken_is_run steps w [] = tt
  taken_is_run steps w (p ∷ ps) = run_step steps w p ps (is_taken space code steps w p) refl (taken_is_run steps (world_after space code w p) ps) (taken_is_run steps w ps)

  entries_added_is : (w : WorldAt State Value Fixed) (by t : ℕ) (j : PickStep Op) → entries_added by t (if_ok (answer_of_step space code w j)) ≡ entries_of_step space w.memory by t j
  entries_added_is w by t (step.Refused f) = refl
  entries_added_is w by t step.Local = refl
  entries_added_is w by t (step.Event op) = refl

  -- the entries of what is left, by the first pick of it
  pub entries_step : (steps : ℕ) (w v : WorldAt State Value Fixed) (p : Pick) (ps : List Pick) (t : ℕ) (b : Bool) → is_taken space code steps w p ≡ b → v ≡ cond b (world_after space code w p) w
      → entries space code w (picks_taken space code steps w (p ∷ ps)) t ≡ entries_added p.thread t (step_taken space code steps w p) ++ entries space code v (picks_taken space code steps v ps) t
  entries_step steps w v p ps t true e is = rw (e, is, entries_added_is w p.thread t (step_of_pick space code w p))
  entries_step steps w v p ps t false e is = rw (e, is)

  pub world_step : (steps : ℕ) (w v : WorldAt State Value Fixed) (p : Pick) (ps : List Pick) (b : Bool) → is_taken space code steps w p ≡ b → v ≡ cond b (world_after space code w p) w
      → world_run space code w (picks_taken space code steps w (p ∷ ps)) ≡ world_run space code v (picks_taken space code steps v ps)
  world_step steps w v p ps true e is = rw (e, is)
  world_step steps w v p ps false e is = rw (e, is)

  -- a pick that is passed over is so however often it comes
  pub none_taken : (steps : ℕ) (w : WorldAt State Value Fixed) (p : Pick) (n : ℕ) → is_taken space code steps w p ≡ false → picks_taken space code steps w (replicate n p) ≡ []
  none_taken steps w p zero e = refl
  none_taken steps w p (suc n) e = rw e (none_taken steps w p n e)

  pub all_passed : (steps : ℕ) (w : WorldAt State Value Fixed) (p : Pick) (n : ℕ) → is_taken space code steps w p ≡ false → picks_passed space code steps w (replicate n p) ≡ n
  all_passed steps w p zero e = refl
  all_passed steps w p (suc n) e = let more = all_passed steps w p n e in rw e (omega (arith, more))

pub list_same : (f : List Entry → List Entry) (lists : List (List Entry)) (t : ℕ) → t < length lists → list_at (change_at lists t f) t ≡ f (list_at lists t)
list_same f [] t h = absurd (omega arith)
list_same f (x ∷ xs) zero h = refl
list_same f (x ∷ xs) (suc t) h = list_same f xs t (omega arith)

pub list_other : (f : List Entry → List Entry) (lists : List (List Entry)) (by t : ℕ) → by ≢ t → list_at (change_at lists by f) t ≡ list_at lists t
list_other f [] by t h = refl
list_other f (x ∷ xs) zero zero h = absurd (h refl)
list_other f (x ∷ xs) zero (suc t) h = refl
list_other f (x ∷ xs) (suc by) zero h = refl
list_other f (x ∷ xs) (suc by) (suc t) h = list_other f xs by t (λ e. h (ap suc e))

-- the lists of a log after an entry more
pub list_push : (lists : List (List Entry)) (by t : ℕ) (e : Entry) → t < length lists → list_at (change_at lists by (λ es. es ++ e ∷ [])) t ≡ list_at lists t ++ cond (by == t) (e ∷ []) []
list_push lists by t e h =
    elim (eqb_tells by t) [
      | inl p ↦ rw p.0 (rw p.1 (list_same (λ es. es ++ e ∷ []) lists t h))
      | inr p ↦ rw p.0 (list_other (λ es. es ++ e ∷ []) lists by t p.1 ∙ sym (append-nil _))
    ]

pub list_none : (n t : ℕ) → list_at (replicate n []) t ≡ []
list_none zero t = refl
list_none (suc n) zero = refl
list_none (suc n) (suc t) = list_none n t

pub list_length : (f : List Entry → List Entry) (lists : List (List Entry)) (by : ℕ) → length (change_at lists by f) ≡ length lists
list_length f [] by = refl
list_length f (x ∷ xs) zero = refl
list_length f (x ∷ xs) (suc by) = ap suc (list_length f xs by)

pub noted_event : (lists news : List (List Entry)) (by : ℕ) (e : Entry) → news ≡ change_at lists by (λ es. es ++ e ∷ []) → IsNoted lists news by (Some (stepped.Event e))
noted_event lists news by e is = record { logs = λ t h. rw is (list_push lists by t e h); len = ap length is ∙ list_length _ lists by }

-- lists of which one is written
pub list_written : (f : List Entry → List Entry) (lists : List (List Entry)) (i : ℕ) (x y : List Entry) → i < length lists → x ≡ get_or lists i x → y ≡ f x → slice_set lists i y ≡ change_at lists i f
list_written f [] i x y h e is = absurd (omega arith)
list_written f (l ∷ ls) zero x y h e is = ap (λ z. z ∷ ls) (is ∙ ap f e)
list_written f (l ∷ ls) (suc i) x y h e is = ap (λ zs. l ∷ zs) (list_written f ls i x y (omega (arith, h)) e is)

pub list_stays : (lists : List (List Entry)) (i : ℕ) (x y : List Entry) → i < length lists → x ≡ get_or lists i x → y ≡ x → slice_set lists i y ≡ lists
list_stays [] i x y h e is = absurd (omega arith)
list_stays (l ∷ ls) zero x y h e is = ap (λ z. z ∷ ls) (is ∙ e)
list_stays (l ∷ ls) (suc i) x y h e is = ap (λ zs. l ∷ zs) (list_stays ls i x y (omega (arith, h)) e is)

pub where_ok : {E : Type 0} (P Q : Type 0) (r : Result (Unit {0}) E) → (P → Q) → OnOk r P → OnOk r Q
where_ok P Q (Ok x) f p = f p
where_ok P Q (Err e) f p = tt

pub where_err : {E : Type 0} (P Q : Type 0) (r : Result (Unit {0}) E) → (P → Q) → OnErr r P → OnErr r Q
where_err P Q (Ok x) f p = tt
where_err P Q (Err e) f p = f p
