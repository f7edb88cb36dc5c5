-- The test of a break, and what it tells.
use Rattle.std.proofs.Common.{◌≡◌, ◌⊎◌, ℕ, ◌==◌, ◌&&◌, true, false, cond, List, [], ◌∷◌, map, Option, Some, None, slice_get, option_map, refl, sym, ap, ◌∙◌, subst, inl, inr}
use Rattle.std.specs.Prelude.{◌||◌}
use Rattle.std.proofs.lemmas.Bool.{eqb-true, eqb-false, eq-eqb, ne_eqb, and_parts, and_from, or_cases, or_parts, not-true, not_from_false, both_ways, cases_eq}
use Rattle.rw_objects.specs.declared.count.Count.{Count}
use Rattle.rw_objects.specs.declared.touch.Touch.{Touch}
use Rattle.rw_objects.specs.Space.{Space, mode_at}
use Rattle.rw_objects.specs.Counts.{count_after_if}
use Rattle.rw_objects.specs.Code.{Code}
use Rattle.event_core.specs.declared.pick.Input.TheVariants.{Go, TimeOut}
use Rattle.event_core.specs.declared.step.PickStep.{PickStep}
use Rattle.event_core.specs.declared.step.PickStep.TheVariants as step
use Rattle.event_core.specs.World.{WorldAt, step_of_pick, world_after_step, world_after}
use Rattle.replay_laws.specs.declared.turn.Turn.{Turn}
use Rattle.replay_laws.specs.declared.turn.Turn.TheVariants as turn
use Rattle.replay_laws.specs.Turns.{pick_of, world_after_turn}
use Rattle.replay_gate.specs.declared.answers.Turned.{Turned}
use Rattle.replay_gate.specs.declared.answers.Turned.TheVariants as turned
use Rattle.replay_gate.specs.Turned.{answer_of_turn}
use Rattle.replay_gate.specs.declared.breaks.Break.{Break}
use Rattle.replay_gate.specs.declared.breaks.Break.TheVariants as break
use Rattle.replay_gate.specs.declared.marks.Marks.{Marks}
use Rattle.replay_gate.specs.Marks.{mark_of, is_rewritten, is_any_rewritten, marks_of_step, AreMarks}
use Rattle.replay_gate.specs.Tests.{is_answer, is_number, holds_by}
use Rattle.replay_gate.specs.declared.breaks.ObjectRange.{ObjectRange}
use Rattle.replay_gate.specs.Breaks.{is_event, is_among, IsWritten, Holds}

same_answer : (x : Turn) (d : Turned) → answer_of_turn x ≡ Some d → is_answer d ≡ is_event x
same_answer turn.Done turned.Done h = refl
same_answer turn.Done turned.Local h = refl
same_answer turn.Done turned.Event h = absurd cc
same_answer turn.Local turned.Done h = refl
same_answer turn.Local turned.Local h = refl
same_answer turn.Local turned.Event h = absurd cc
same_answer (turn.Event input) turned.Done h = absurd cc
same_answer (turn.Event input) turned.Local h = absurd cc
same_answer (turn.Event input) turned.Event h = refl
same_answer (turn.Refused r) d h = absurd cc

-- a number that is had of a thread
of_thread : {A : Type 0} (f : A → ℕ) (o : Option A) (n : ℕ) → is_number (option_map f o) n ≡ true → (a : A) × (o ≡ Some a) × (f a ≡ n)
of_thread f None n h = absurd cc
of_thread f (Some a) n h = (a, refl, eqb-true (f a) n h)

to_number : {A : Type 0} (f : A → ℕ) (o : Option A) (n : ℕ) (a : A) → o ≡ Some a → f a ≡ n → is_number (option_map f o) n ≡ true
to_number f o n a is e = ap (λ x. is_number (option_map f x) n) is ∙ eq-eqb (f a) n e

-- ---- writes

module _ (objects : ObjectRange) (old new : ℕ → Count) where
  -- one of the objects that has another version
  pub record IsChanged : Type 0 where
    pub object : ℕ
    pub among : is_among objects object ≡ true
    pub changed : (new object).version ≡ (old object).version → ⊥

  changed_in : (ts : List Touch) → is_any_rewritten objects new (map (mark_of old) ts) ≡ true → IsChanged
  changed_in [] h = absurd cc
  changed_in (t ∷ ts) h =
      elim (or_cases (is_rewritten objects new (mark_of old t)) (is_any_rewritten objects new (map (mark_of old) ts)) h) [
        | inl p ↦
            let q = and_parts (is_among objects t.object) _ p in
            record { object = t.object; among = q.0; changed = eqb-false _ _ (not-true _ q.1) }
        | inr p ↦ changed_in ts p
      ]

  rewritten : (t : Touch) → is_among objects t.object ≡ true → ((new t.object).version ≡ (old t.object).version → ⊥) → is_rewritten objects new (mark_of old t) ≡ true
  rewritten t among changed = and_from (is_among objects t.object) _ among (not_from_false _ (ne_eqb _ _ changed))

  untouched : (ts : List Touch) (o : ℕ) → is_any_rewritten objects new (map (mark_of old) ts) ≡ false → is_among objects o ≡ true → ((new o).version ≡ (old o).version → ⊥) → mode_at ts o ≡ None
  untouched [] o h among changed = refl
  untouched (t ∷ ts) o h among changed =
      let p = or_parts (is_rewritten objects new (mark_of old t)) (is_any_rewritten objects new (map (mark_of old) ts)) h in
      elim (cases_eq t.object o) [
        | inl e ↦ absurd (both_ways _ p.0 (rewritten t (subst (λ k. is_among objects k ≡ true) (sym e) among)
            (subst (λ k. (new k).version ≡ (old k).version → ⊥) (sym e) changed)))
        | inr n ↦ ap (λ b. cond b (Some t.mode) (mode_at ts o)) (ne_eqb t.object o n) ∙ untouched ts o p.1 among changed
      ]

module _ {State Op Reply Value Fixed : Type 0} (space : Space Op Reply Value Fixed) (code : Code State Op Reply Fixed) (w : WorldAt State Value Fixed) (t : ℕ) where
  by_step : (objects : ObjectRange) (s : PickStep Op) (v : WorldAt State Value Fixed) → is_any_rewritten objects v.memory.counts (marks_of_step space w.memory.counts s) ≡ true → IsWritten w v objects
  by_step objects (step.Refused f) v h = absurd cc
  by_step objects step.Local v h = absurd cc
  by_step objects (step.Event op) v h =
      let c = changed_in objects w.memory.counts v.memory.counts (space.touches op) h in
      record { object = c.object; among = c.among; changed = c.changed }

  not_by_step : (objects : ObjectRange) (s : PickStep Op) (v : WorldAt State Value Fixed) → v ≡ world_after_step space code w t s → is_any_rewritten objects v.memory.counts (marks_of_step space w.memory.counts s) ≡ false
      → IsWritten w v objects → ⊥
  not_by_step objects (step.Refused f) v is h x = x.changed (ap (λ (u : WorldAt State Value Fixed). (u.memory.counts x.object).version) is)
  not_by_step objects step.Local v is h x = x.changed (ap (λ (u : WorldAt State Value Fixed). (u.memory.counts x.object).version) is)
  not_by_step objects (step.Event op) v is h x =
      let none = untouched objects w.memory.counts v.memory.counts (space.touches op) x.object h x.among x.changed in
      x.changed (ap (λ (u : WorldAt State Value Fixed). (u.memory.counts x.object).version) is ∙ ap (λ o. (count_after_if o (w.memory.counts x.object)).version) none)

  -- the marks tell what the turn writes: they are those of the step by which the thread goes on, and of its time-out,
  -- where the turn is not that step
  pub record MarksTell (x : Turn) (marks : Marks) : Type 0 where
    pub goes : marks.goes ≡ marks_of_step space w.memory.counts (step_of_pick space code w (pick_of t Go))
    pub out : (marks.times_out ≡ marks_of_step space w.memory.counts (step_of_pick space code w (pick_of t TimeOut))) ⊎ ((marks.times_out ≡ []) × (x ≡ turn.Event Go))

  pub all_tell : (x : Turn) (marks : Marks) → AreMarks space code w t marks → MarksTell x marks
  all_tell x marks m = record { goes = m.goes; out = inl m.times_out }

  by_going : (objects : ObjectRange) (x : Turn) (marks : Marks) (v : WorldAt State Value Fixed) → MarksTell x marks → v ≡ world_after space code w (pick_of t Go)
      → (is_any_rewritten objects v.memory.counts marks.goes || is_any_rewritten objects v.memory.counts marks.times_out) ≡ false → IsWritten w v objects → ⊥
  by_going objects x marks v m is h =
      let p = or_parts (is_any_rewritten objects v.memory.counts marks.goes) _ h in
      not_by_step objects (step_of_pick space code w (pick_of t Go)) v is (subst (λ ms. is_any_rewritten objects v.memory.counts ms ≡ false) m.goes p.0)

  by_time_out : (objects : ObjectRange) (marks : Marks) (v : WorldAt State Value Fixed) → MarksTell (turn.Event TimeOut) marks → v ≡ world_after space code w (pick_of t TimeOut)
      → (is_any_rewritten objects v.memory.counts marks.goes || is_any_rewritten objects v.memory.counts marks.times_out) ≡ false → IsWritten w v objects → ⊥
  by_time_out objects marks v m is h y =
      let p = or_parts (is_any_rewritten objects v.memory.counts marks.goes) _ h in
      elim m.out [
        | inl e ↦ not_by_step objects (step_of_pick space code w (pick_of t TimeOut)) v is (subst (λ ms. is_any_rewritten objects v.memory.counts ms ≡ false) e p.1) y
        | inr n ↦ let q = n.1 in cc
      ]

  not_by_turn : (objects : ObjectRange) (x : Turn) (marks : Marks) (v : WorldAt State Value Fixed) → MarksTell x marks → v ≡ world_after_turn space code w t x
      → (is_any_rewritten objects v.memory.counts marks.goes || is_any_rewritten objects v.memory.counts marks.times_out) ≡ false → IsWritten w v objects → ⊥
  not_by_turn objects turn.Done marks v m is h y = y.changed (ap (λ (u : WorldAt State Value Fixed). (u.memory.counts y.object).version) is)
  not_by_turn objects turn.Local marks v m is h y = by_going objects turn.Local marks v m is h y
  not_by_turn objects (turn.Event Go) marks v m is h y = by_going objects (turn.Event Go) marks v m is h y
  not_by_turn objects (turn.Event TimeOut) marks v m is h y = by_time_out objects marks v m is h y
  not_by_turn objects (turn.Refused r) marks v m is h y = y.changed (ap (λ (u : WorldAt State Value Fixed). (u.memory.counts y.object).version) is)

  -- ---- any break

  pub passes_holds : (x : Turn) (d : Turned) (marks : Marks) (v : WorldAt State Value Fixed) → MarksTell x marks → answer_of_turn x ≡ Some d
      → (b : Break) → holds_by code b t d marks v ≡ true → Holds space code w v t x b
  passes_holds x d marks v m is (break.Place thread place) h =
      let p = and_parts ((t == thread) && is_answer d) _ h in
      let q = and_parts (t == thread) _ p.0 in
      let a = of_thread (λ th. th.places) (slice_get v.threads t) place p.1 in
      record { same = eqb-true t thread q.0; event = sym (same_answer x d is) ∙ q.1; at = a.0; exists = a.1; places = a.2 }
  passes_holds x d marks v m is (break.Step thread steps) h =
      let p = and_parts (t == thread) _ h in
      let a = of_thread (λ th. code.steps th.state) (slice_get v.threads t) steps p.1 in
      record { same = eqb-true t thread p.0; at = a.0; exists = a.1; steps_made = a.2 }
  passes_holds x d marks v m is (break.Write objects) h =
      elim (or_cases (is_any_rewritten objects v.memory.counts marks.goes) _ h) [
        | inl p ↦ by_step objects (step_of_pick space code w (pick_of t Go)) v (subst (λ ms. is_any_rewritten objects v.memory.counts ms ≡ true) m.goes p)
        | inr p ↦
            elim m.out [
              | inl e ↦ by_step objects (step_of_pick space code w (pick_of t TimeOut)) v (subst (λ ms. is_any_rewritten objects v.memory.counts ms ≡ true) e p)
              | inr n ↦ let none = ap (is_any_rewritten objects v.memory.counts) n.0 in absurd cc
            ]
      ]

  pub fails_holds : (x : Turn) (d : Turned) (marks : Marks) (v : WorldAt State Value Fixed) → MarksTell x marks → answer_of_turn x ≡ Some d → v ≡ world_after_turn space code w t x
      → (b : Break) → holds_by code b t d marks v ≡ false → Holds space code w v t x b → ⊥
  fails_holds x d marks v m is after (break.Place thread place) h y =
      both_ways _ h (and_from ((t == thread) && is_answer d) _ (and_from (t == thread) _ (eq-eqb t thread y.same) (same_answer x d is ∙ y.event)) (to_number (λ th. th.places) (slice_get v.threads t) place y.at y.exists y.places))
  fails_holds x d marks v m is after (break.Step thread steps) h y =
      both_ways _ h (and_from (t == thread) _ (eq-eqb t thread y.same) (to_number (λ th. code.steps th.state) (slice_get v.threads t) steps y.at y.exists y.steps_made))
  fails_holds x d marks v m is after (break.Write objects) h y = not_by_turn objects x marks v m after h y
