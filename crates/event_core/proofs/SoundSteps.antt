-- What a world keeps over a step.
use Rattle.std.proofs.Common.{◌≡◌, ℕ, zero, suc, ◌+◌, ◌*◌, ◌<◌, ◌≤◌, ◌^◌, ◌⊎◌, true, List, [], ◌∷◌, length, Option, Some, None, slice_get, sum_by, Result, Ok, Err, OnOk, OnErr, sym, ap, ◌∙◌, refl, subst, arith, inl, inr}
use Rattle.std.proofs.lemmas.List.Sums.{sum_by-cons}
use Rattle.rw_objects.specs.declared.touch.Mode.{Mode}
use Rattle.rw_objects.specs.declared.touch.Mode.TheVariants.{Read, Write}
use Rattle.rw_objects.specs.declared.count.Count.{Count}
use Rattle.rw_objects.specs.Space.{Space, SpaceLaws, mode_at}
use Rattle.rw_objects.specs.Counts.{count_after_if}
use Rattle.rw_objects.specs.Code.{Code, CodeLaws}
use Rattle.rw_objects.specs.Memory.{Memory, memory_after}
use Rattle.event_core.specs.declared.pick.Pick.{Pick}
use Rattle.event_core.specs.declared.step.PickStep.TheVariants as step
use Rattle.event_core.specs.World.{WorldAt, step_of_pick}
use Rattle.event_core.proofs.Steps.{thread_local, thread_event, IsEvent}
use Rattle.event_core.specs.Threads.{thread_after_local, thread_after_reply, ThreadAt, all_steps, change_at}
use Rattle.event_core.specs.Sound.{IsSound, IsSoundThread}

pub length_change : {A : Type 0} (f : A → A) (xs : List A) (i : ℕ) → length (change_at xs i f) ≡ length xs
length_change f [] i = refl
length_change f (x ∷ xs) zero = refl
length_change f (x ∷ xs) (suc i) = ap suc (length_change f xs i)

pub get_change : {A : Type 0} (f : A → A) (xs : List A) (i j : ℕ) (x u : A) → slice_get xs i ≡ Some x → slice_get (change_at xs i f) j ≡ Some u → (u ≡ f x) ⊎ (slice_get xs j ≡ Some u)
get_change f [] i j x u h e = inr e
get_change f (y ∷ xs) zero zero x u h e = let same : y ≡ x = cc in inl (let k : f y ≡ u = cc in sym k ∙ ap f same)
get_change f (y ∷ xs) zero (suc j) x u h e = inr e
get_change f (y ∷ xs) (suc i) zero x u h e = inr e
get_change f (y ∷ xs) (suc i) (suc j) x u h e = get_change f xs i j x u h e

pub sum_change : {A : Type 0} (g : A → ℕ) (f : A → A) (xs : List A) (i : ℕ) (x : A) → slice_get xs i ≡ Some x → g (f x) ≡ g x + 1 → sum_by g (change_at xs i f) ≡ sum_by g xs + 1
sum_change g f [] i x h e = absurd (cc)
sum_change g f (y ∷ xs) zero x h e =
    let same : y ≡ x = cc in
    let k : g (f y) ≡ g y + 1 = subst (λ z. g (f z) ≡ g z + 1) (sym same) e in
    simp sum_by-cons (omega (arith, k))
sum_change g f (y ∷ xs) (suc i) x h e = let k = sum_change g f xs i x h e in simp sum_by-cons (omega (arith, k))

pub sum_most : {A : Type 0} (g : A → ℕ) (xs : List A) → ((i : ℕ) (x : A) → slice_get xs i ≡ Some x → g x ≤ 1000000000) → sum_by g xs ≤ length xs * 1000000000
sum_most g [] h = omega arith
sum_most g (x ∷ xs) h =
    let here : g x ≤ 1000000000 = h 0 x refl in
    let rest : sum_by g xs ≤ length xs * 1000000000 = sum_most g xs (λ i y e. h (suc i) y e) in
    simp sum_by-cons (omega (arith, here, rest))

pub counted_most : (mode : Option Mode) (c : Count) → ((count_after_if mode c).version ≤ c.version + 1) × ((count_after_if mode c).reads ≤ c.reads + 1)
counted_most None c = (omega arith, omega arith)
counted_most (Some Read) c = (omega arith, omega arith)
counted_most (Some Write) c = (omega arith, omega arith)

module _ {State Op Reply Value Fixed : Type 0} (space : Space Op Reply Value Fixed) (code : Code State Op Reply Fixed) where
  -- a change of one thread by one step
  pub record OneStep (f : ThreadAt State → ThreadAt State) (t : ThreadAt State) : Type 0 where
    pub steps : code.steps (f t).state ≡ code.steps t.state + 1
    pub fixed : code.fixed (f t).state ≡ code.fixed t.state
    pub is_suited : code.is_suited t.state ≡ true → code.is_suited (f t).state ≡ true
    pub places : (f t).places ≤ t.places + 1
    pub below : code.steps t.state < 1000000000

  pub kept_step : (f : ThreadAt State → ThreadAt State) (ts : List (ThreadAt State)) (m n : Memory Value Fixed) (i : ℕ) (t : ThreadAt State) → slice_get ts i ≡ Some t → OneStep f t → n.fixed ≡ m.fixed → ((o : ℕ) → ((n.counts o).version ≤ (m.counts o).version + 1) × ((n.counts o).reads ≤ (m.counts o).reads + 1)) → IsSound code ts m → IsSound code (change_at ts i f) n
  kept_step f ts m n i t is one same more kept =
      let sum : all_steps code (change_at ts i f) ≡ all_steps code ts + 1 = sum_change (λ u. code.steps u.state) f ts i t is one.steps in
      record {
        few = rw (length_change f ts i) kept.few;
        each = λ j u e.
            elim (get_change f ts i j t u is e) [
              | inl p ↦
                  let old = kept.each i t is in
                  subst (λ v. IsSoundThread code n v) (sym p) (record { is_suited = one.is_suited old.is_suited; fixed = one.fixed ∙ (old.fixed ∙ sym same); steps = omega (arith, one.steps, one.below); places = omega (arith, one.steps, one.places, old.places) })
              | inr p ↦ let old = kept.each j u p in record { is_suited = old.is_suited; fixed = old.fixed ∙ sym same; steps = old.steps; places = old.places }
            ];
        versions = λ o. omega (arith, (more o).0, kept.versions o, sum);
        reads = λ o. omega (arith, (more o).1, kept.reads o, sum);
      }

  pub steps_most : (ts : List (ThreadAt State)) (m : Memory Value Fixed) → IsSound code ts m → all_steps code ts ≤ 16000000000
  steps_most ts m kept = omega (arith, sum_most (λ u. code.steps u.state) ts (λ i x e. (kept.each i x e).steps), kept.few)

  pub rooms_kept : (ts : List (ThreadAt State)) (m : Memory Value Fixed) (o : ℕ) → IsSound code ts m → ((m.counts o).version + 1 < 2 ^ 64) × ((m.counts o).reads + 1 < 2 ^ 64)
  rooms_kept ts m o kept = (omega (arith, steps_most ts m kept, kept.versions o), omega (arith, steps_most ts m kept, kept.reads o))

  -- what a local step keeps
  pub local_kept : CodeLaws space code → (w : WorldAt State Value Fixed) (pick : Pick) → step_of_pick space code w pick ≡ step.Local → IsSound code w.threads w.memory → IsSound code (change_at w.threads pick.thread (thread_after_local code)) w.memory
  local_kept rules w pick h kept =
      let e = thread_local space code w.memory (slice_get w.threads pick.thread) pick.input h in
      kept_step (thread_after_local code) w.threads w.memory w.memory pick.thread e.0 e.1
      (record { steps = rules.local_steps e.0.state e.2.next; fixed = rules.local_fixed e.0.state e.2.next; is_suited = rules.local_suited e.0.state e.2.next; places = omega arith; below = e.2.steps })
      refl (λ o. (omega arith, omega arith)) kept

  -- what is known of an event's thread and operation
  pub event_of : SpaceLaws space → CodeLaws space code → (w : WorldAt State Value Fixed) (pick : Pick) (op : Op) → step_of_pick space code w pick ≡ step.Event op → IsSound code w.threads w.memory → (t : ThreadAt State) × (slice_get w.threads pick.thread ≡ Some t) × IsEvent space code w.memory t op
  event_of laws rules w pick op h kept =
      thread_event space code laws rules w.memory (slice_get w.threads pick.thread) pick.input op (λ t e. (kept.each pick.thread t e).fixed) (λ t e. (kept.each pick.thread t e).is_suited) h

  -- what an event keeps
  pub event_kept : SpaceLaws space → CodeLaws space code → (w : WorldAt State Value Fixed) (pick : Pick) (op : Op) (reply : Reply) → step_of_pick space code w pick ≡ step.Event op → IsSound code w.threads w.memory → IsSound code (change_at w.threads pick.thread (thread_after_reply code reply)) (memory_after space w.memory op)
  event_kept laws rules w pick op reply h kept =
      let e = event_of laws rules w pick op h kept in
      kept_step (thread_after_reply code reply) w.threads w.memory (memory_after space w.memory op) pick.thread e.0 e.1
      (record { steps = rules.take_steps e.0.state reply e.2.made.takes; fixed = rules.take_fixed e.0.state reply e.2.made.takes; is_suited = rules.take_suited e.0.state reply e.2.made.takes; places = omega arith; below = e.2.steps })
      refl (λ o. counted_most (mode_at (space.touches op) o) (w.memory.counts o)) kept

-- what holds after either answer_of_pick
pub on_both : {X E P Q R : Type 0} (r : Result X E) → (P → R) → (Q → R) → OnOk r P → OnErr r Q → R
on_both (Ok x) p q h k = p h
on_both (Err e) p q h k = q k
