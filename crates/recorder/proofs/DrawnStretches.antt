-- One pick that is made again and again.
use Rattle.std.proofs.Common.{◌≡◌, ℕ, zero, suc, ◌+◌, ◌-◌, ◌<◌, ◌≤◌, ◌==◌, true, false, cond, List, [], ◌∷◌, ◌++◌, length, replicate, Some, None, slice_get, refl, sym, ap, ◌∙◌, subst, arith, inl, inr, append_assoc}
use Rattle.std.proofs.lemmas.Bool.Decides.{eqb_tells}
use Rattle.std.proofs.lemmas.List.{append-nil, length-append}
use Rattle.std.proofs.lemmas.Option.{same_Some}
use Rattle.rw_objects.specs.Space.{Space}
use Rattle.rw_objects.specs.Code.{Code, CodeLaws}
use Rattle.rw_objects.specs.Memory.{Memory, entry_of}
use Rattle.rw_objects.specs.declared.entry.Entry.{Entry}
use Rattle.event_core.specs.declared.pick.Pick.{Pick}
use Rattle.event_core.specs.declared.step.PickStep.{PickStep}
use Rattle.event_core.specs.declared.step.PickStep.TheVariants as step
use Rattle.event_core.specs.LocalRun.{go_of, goes}
use Rattle.event_core.specs.Threads.{ThreadAt}
use Rattle.event_core.specs.World.{WorldAt, step_of_pick, world_after}
use Rattle.event_core.specs.Run.{entries, entries_of_step, world_run}
use Rattle.event_core.specs.ThreadRun.{put_all, IsThreadRun}
use Rattle.replay_laws.proofs.JoinedRuns.{entries_joined}
use Rattle.recorder.specs.Picks.{is_taken, step_taken, picks_taken}
use Rattle.recorder.specs.Recorded.{list_at, IsNoted, OthersStay, AreRecorded}
use Rattle.recorder.proofs.Batches.{run_recorded}
use Rattle.recorder.proofs.Stretches.{none_recorded, one_recorded, stretch_joined, stretch_parts}
use Rattle.recorder.specs.Few.{left_behind, put_few}
use Rattle.recorder.specs.Draw.{is_event}
use Rattle.recorder.specs.Making.{steps_at, IsFewRun, Makes, IsOverAt, StepsOn, MakesStretch}
use Rattle.recorder.proofs.Counting.{all_taken, first_taken, stretch_counts, taken_few}

-- ---- a log that takes few entries

-- what such a log is behind entries that it took
pub record TakenFew (before : List Entry) (left : ℕ) (es : List Entry) (after : List Entry × ℕ) : Type 0 where
  pub list : after.0 ≡ before ++ es
  pub counted : length es + after.1 ≡ left

pub taken_few_entries : (before : List Entry) (left : ℕ) (es : List Entry) (after : List Entry × ℕ) → put_all put_few (before, left) es ≡ Some after → TakenFew before left es after
taken_few_entries before left [] after h =
    let same : (before, left) ≡ after = same_Some (before, left) after h in
    record { list = ap (λ (a : List Entry × ℕ). a.0) (sym same) ∙ sym (append-nil before); counted = let k = ap (λ (a : List Entry × ℕ). a.1) (sym same) in omega (arith, k) }
taken_few_entries before zero (e ∷ es) after h = absurd (cc)
taken_few_entries before (suc left) (e ∷ es) after h =
    let k = taken_few_entries (before ++ e ∷ []) left es after h in
    record { list = k.list ∙ append_assoc before (e ∷ []) es; counted = let l = k.counted in omega (arith, l) }

-- entries that are put behind a list
put_behind : (l es : List Entry) → put_all (λ xs x. Some (xs ++ x ∷ [])) l es ≡ Some (l ++ es)
put_behind l [] = ap Some (sym (append-nil l))
put_behind l (e ∷ es) = put_behind (l ++ e ∷ []) es ∙ ap Some (append_assoc l (e ∷ []) es)

-- the picks are one pick, many times
goes_are : (t n : ℕ) → goes t n ≡ replicate n (go_of t)
goes_are t zero = refl
goes_are t (suc n) = ap (λ l. go_of t ∷ l) (goes_are t n)

-- how many events are left behind one, and behind another step
event_left : (left rest : ℕ) → left_behind true left ≡ Some rest → suc rest ≡ left
event_left zero rest h = absurd (cc)
event_left (suc left) rest h = let same : left ≡ rest = cc in ap suc (sym same)

none_left : (left : ℕ) → left_behind true left ≡ None → left ≡ 0
none_left zero h = refl
none_left (suc left) h = absurd (cc)

-- the entry of a thread's own event
own_entry : (t : ℕ) (e : Entry) → cond (t == t) (e ∷ []) [] ≡ e ∷ []
own_entry t e =
    elim (eqb_tells t t) [
      | inl p ↦ ap (λ b. cond b (e ∷ []) []) p.0
      | inr p ↦ absurd (p.1 refl)
    ]

module _ {Op Reply Value Fixed : Type 0} (space : Space Op Reply Value Fixed) where
  counted_step : (m : Memory Value Fixed) (t : ℕ) (s : PickStep Op) (left rest : ℕ) → left_behind (is_event s) left ≡ Some rest → length (entries_of_step space m t t s) + rest ≡ left
  counted_step m t (step.Refused f) left rest h = let k : left ≡ rest = cc in omega (arith, k)
  counted_step m t step.Local left rest h = let k : left ≡ rest = cc in omega (arith, k)
  counted_step m t (step.Event op) left rest h =
      let k = event_left left rest h in
      let one : length (cond (t == t) (entry_of space m op ∷ []) []) ≡ 1 = ap length (own_entry t (entry_of space m op)) in
      omega (arith, k, one)

  -- an event has one entry
  pub own_event : (m : Memory Value Fixed) (t : ℕ) (s : PickStep Op) → is_event s ≡ true → length (entries_of_step space m t t s) ≡ 1
  own_event m t (step.Refused f) h = absurd (cc)
  own_event m t step.Local h = absurd (cc)
  own_event m t (step.Event op) h = ap length (own_entry t (entry_of space m op))

  -- none is left where an event may not be made
  over_by : (s : PickStep Op) (left : ℕ) → left_behind (is_event s) left ≡ None → (is_event s ≡ true) × (left ≡ 0)
  over_by (step.Refused f) left h = absurd (cc)
  over_by step.Local left h = absurd (cc)
  over_by (step.Event op) left h = (refl, none_left left h)

module _ {State Op Reply Value Fixed : Type 0} (space : Space Op Reply Value Fixed) (code : Code State Op Reply Fixed) where
  -- a thread that was run with such a log
  pub few_run : (t n most left rest : ℕ) (w v : WorldAt State Value Fixed) (lists news : List (List Entry)) → n ≤ most → IsThreadRun space code put_few t n w v (list_at lists t, left) (list_at news t, rest) → OthersStay t lists news
      → IsFewRun space code t most left rest w v lists news
  few_run t n most left rest w v lists news few r others =
      let k = taken_few_entries (list_at lists t) left (entries space code w (goes t n) t) (list_at news t, rest) r.log in
      record {
        times = n;
        few = few;
        run = record { run = r.run; leads = r.leads; log = put_behind (list_at lists t) (entries space code w (goes t n) t) ∙ ap Some (sym k.list) };
        others = others;
        counted = k.counted;
      }

  module _ (steps : ℕ) where
    -- what was recorded with none passed over
    pub recorded_taken : (ps : List Pick) (w v : WorldAt State Value Fixed) (lists news : List (List Entry)) → AreRecorded space code steps ps w v lists news 0 0 → picks_taken space code steps w ps ≡ ps
    recorded_taken ps w v lists news r = let k = r.passed in all_taken space code steps w ps (omega (arith, k))

    pub recorded_leads : (ps : List Pick) (w v : WorldAt State Value Fixed) (lists news : List (List Entry)) → AreRecorded space code steps ps w v lists news 0 0 → v ≡ world_run space code w ps
    recorded_leads ps w v lists news r = r.world ∙ ap (world_run space code w) (recorded_taken ps w v lists news r)

    -- ---- parts of a stretch

    pub makes_none : (p : Pick) (left : ℕ) (w : WorldAt State Value Fixed) (lists : List (List Entry)) → Makes space code steps p left left w w lists lists
    makes_none p left w lists = record { times = 0; recorded = none_recorded space code steps w lists 0; counted = omega arith }

    pub makes_run : CodeLaws space code → (t most left rest : ℕ) (w v : WorldAt State Value Fixed) (x : ThreadAt State) (lists news : List (List Entry)) → slice_get w.threads t ≡ Some x → code.steps x.state + most ≤ steps
        → IsFewRun space code t most left rest w v lists news → Makes space code steps (go_of t) left rest w v lists news
    makes_run rules t most left rest w v x lists news is few r =
        let n = r.times in
        let fewer = r.few in
        record {
          times = n;
          recorded = run_recorded space code rules steps t n w v x lists news 0 is (omega (arith, few, fewer)) r.run r.others;
          counted = ap (λ ps. length (entries space code w ps t) + rest) (sym (goes_are t n)) ∙ r.counted;
        }

    -- a pick that was tried, where its step may be made
    pub steps_tried : (p : Pick) (left rest : ℕ) (w v : WorldAt State Value Fixed) (lists news : List (List Entry)) → left_behind (is_event (step_of_pick space code w p)) left ≡ Some rest
        → is_taken space code steps w p ≡ true → v ≡ cond (is_taken space code steps w p) (world_after space code w p) w → IsNoted lists news p.thread (step_taken space code steps w p)
        → StepsOn space code steps p left w v lists news (Some rest)
    steps_tried p left rest w v lists news h is moved noted = (
      record {
        times = 1;
        recorded = one_recorded space code steps p w v lists news 0 is moved noted;
        counted =
            ap (λ l. length l + rest) (append-nil (entries_of_step space w.memory p.thread p.thread (step_of_pick space code w p)))
            ∙ counted_step space w.memory p.thread (step_of_pick space code w p) left rest h;
      },
      refl,
    )

    -- a pick that is not taken
    pub steps_over : (p : Pick) (left : ℕ) (w v : WorldAt State Value Fixed) (lists news : List (List Entry)) → is_taken space code steps w p ≡ false → v ≡ cond (is_taken space code steps w p) (world_after space code w p) w → news ≡ lists
        → StepsOn space code steps p left w v lists news None
    steps_over p left w v lists news is moved same = (moved ∙ ap (λ b. cond b (world_after space code w p) w) is, same, inl is)

    -- an event past those that are left
    pub steps_past : (p : Pick) (left : ℕ) (w : WorldAt State Value Fixed) (lists : List (List Entry)) → left_behind (is_event (step_of_pick space code w p)) left ≡ None → StepsOn space code steps p left w w lists lists None
    steps_past p left w lists h = (refl, refl, inr (over_by space (step_of_pick space code w p) left h))

    -- one part behind the other
    pub makes_on : (p : Pick) (a b c : ℕ) (w v u : WorldAt State Value Fixed) (one two three : List (List Entry)) → Makes space code steps p a b w v one two → Makes space code steps p b c v u two three → Makes space code steps p a c w u one three
    makes_on p a b c w v u one two three x y =
        let m = x.times in
        let n = y.times in
        let leads = recorded_leads (replicate m p) w v one two x.recorded in
        let both : entries space code w (replicate (m + n) p) p.thread ≡ entries space code w (replicate m p) p.thread ++ entries space code v (replicate n p) p.thread =
        ap (λ ps. entries space code w ps p.thread) (sym (stretch_parts m n p)) ∙ entries_joined space code w (replicate m p) (replicate n p) p.thread
        ∙ ap (λ z. entries space code w (replicate m p) p.thread ++ entries space code z (replicate n p) p.thread) (sym leads) in
        let all = ap length both ∙ length-append (entries space code w (replicate m p) p.thread) (entries space code v (replicate n p) p.thread) in
        let before = x.counted in
        let behind = y.counted in
        record {
          times = m + n;
          recorded = stretch_joined space code steps p m n w v u one two three 0 0 0 x.recorded y.recorded;
          counted = omega (arith, all, before, behind);
        }

    -- a whole stretch
    stretch_made : (p : Pick) (events rest : ℕ) (w v : WorldAt State Value Fixed) (lists news : List (List Entry)) → Makes space code steps p events rest w v lists news → IsOverAt space code steps v p rest → MakesStretch space code steps p events w v lists news
    stretch_made p events rest w v lists news x over =
        let n = x.times in
        let leads = recorded_leads (replicate n p) w v lists news x.recorded in
        let counted = x.counted in
        record {
          times = n;
          recorded = x.recorded;
          stretch = record {
            taken = recorded_taken (replicate n p) w v lists news x.recorded;
            few = omega (arith, counted);
            whole =
                elim over [
                  | inl over ↦ inl (subst (λ z. is_taken space code steps z p ≡ false) leads over)
                  | inr past ↦ inr (subst (λ z. is_event (step_of_pick space code z p) ≡ true) leads past.0, let none = past.1 in omega (arith, counted, none))
                ];
          };
        }

    pub stretch_over : (p : Pick) (events rest : ℕ) (w v u : WorldAt State Value Fixed) (lists news last : List (List Entry)) → Makes space code steps p events rest w v lists news → StepsOn space code steps p rest v u news last None
        → MakesStretch space code steps p events w u lists last
    stretch_over p events rest w v u lists news last x over =
        subst (λ z. MakesStretch space code steps p events w z lists last) (sym over.0) (subst (λ l. MakesStretch space code steps p events w v lists l) (sym over.1) (stretch_made p events rest w v lists news x over.2))

    -- ---- how many steps are left

    -- as many as were made are fewer
    pub steps_made : CodeLaws space code → (p : Pick) (a b : ℕ) (w v : WorldAt State Value Fixed) (lists news : List (List Entry)) (x : Makes space code steps p a b w v lists news)
        → steps_at code (slice_get v.threads p.thread) ≡ steps_at code (slice_get w.threads p.thread) + x.times
    steps_made rules p a b w v lists news x =
        ap (λ (z : WorldAt State Value Fixed). steps_at code (slice_get z.threads p.thread)) (recorded_leads (replicate x.times p) w v lists news x.recorded)
        ∙ stretch_counts space code rules steps p x.times w (recorded_taken (replicate x.times p) w v lists news x.recorded)

    fewer_by : CodeLaws space code → (p : Pick) (a b : ℕ) (w v : WorldAt State Value Fixed) (lists news : List (List Entry)) (x : Makes space code steps p a b w v lists news) (n : ℕ) → x.times ≡ n → n ≡ 1
        → picks_taken space code steps w (replicate n p) ≡ replicate n p → steps - steps_at code (slice_get v.threads p.thread) < steps - steps_at code (slice_get w.threads p.thread)
    fewer_by rules p a b w v lists news x zero is one h = absurd (omega (arith, one))
    fewer_by rules p a b w v lists news x (suc n) is one h =
        let more = steps_made rules p a b w v lists news x in
        let low = taken_few space code steps w p (first_taken space code steps w p n h).0 in
        omega (arith, more, is, low)

    -- one fewer behind a step
    pub fewer_left : CodeLaws space code → (p : Pick) (a b : ℕ) (w v : WorldAt State Value Fixed) (lists news : List (List Entry)) (x : Makes space code steps p a b w v lists news) → x.times ≡ 1
        → steps - steps_at code (slice_get v.threads p.thread) < steps - steps_at code (slice_get w.threads p.thread)
    fewer_left rules p a b w v lists news x one = fewer_by rules p a b w v lists news x x.times refl one (recorded_taken (replicate x.times p) w v lists news x.recorded)
