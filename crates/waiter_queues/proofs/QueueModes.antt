-- Which objects an operation on a queue writes, and what that leaves.
use Rattle.std.proofs.Common.{◌≡◌, ℕ, ◌<◌, ◌≢◌, inl, inr, Bool, true, false, cond, ◌==◌, List, [], ◌∷◌, ◌++◌, length, Some, None, refl, sym, ap, ◌∙◌, arith, get_or-set_same, get_or-set_other, slice_set}
use Rattle.std.proofs.lemmas.Bool.{cases_eq}
use Rattle.std.proofs.lemmas.Bool.Decides.{Decides-eqb}
use Rattle.rw_objects.specs.declared.touch.Mode.TheVariants.{Read, Write}
use Rattle.rw_objects.specs.Space.{mode_at, is_written}
use Rattle.block_objects.specs.Objects.{Queue, QueueAt, block_object, queue_object, object_value}
use Rattle.block_objects.specs.Touches.{touch_of}
use Rattle.block_objects.proofs.Values.{value_block, value_queue, kinds_of, differ_no, equal_yes}
use Rattle.waiter_queues.specs.Shared.{queue_at}

queue_alone : (b : Bool) → is_written (cond b (Some Write) None) ≡ b
queue_alone true = refl
queue_alone false = refl

after_read : (a b : Bool) → (a ≡ true → b ≡ false) → is_written (cond a (Some Read) (cond b (Some Write) None)) ≡ b
after_read true b apart = sym (apart refl)
after_read false b apart = queue_alone b

after_reads : (z a b : Bool) → (z ≡ true → b ≡ false) → (a ≡ true → b ≡ false) → is_written (cond z (Some Read) (cond a (Some Read) (cond b (Some Write) None))) ≡ b
after_reads true a b first second = sym (first refl)
after_reads false a b first second = after_read a b second

-- an object that is another one is not the queue
zero_apart : (b o : ℕ) → (0 == o) ≡ true → (queue_object b == o) ≡ false
zero_apart b o h = let e : 0 ≡ o = (Decides-eqb 0 o).0 h in differ_no (queue_object b) o (λ f. absurd (omega (arith, e, f)))

block_apart : (a b o : ℕ) → (block_object a == o) ≡ true → (queue_object b == o) ≡ false
block_apart a b o h = let e : block_object a ≡ o = (Decides-eqb (block_object a) o).0 h in differ_no (queue_object b) o (λ f. absurd (omega (arith, e, f)))

pub queue_mode : (b o : ℕ) → is_written (mode_at (touch_of Write (queue_object b) ∷ []) o) ≡ (queue_object b == o)
queue_mode b o = queue_alone (queue_object b == o)

pub notify_mode : (within : Bool) (b o : ℕ) → is_written (mode_at (cond within [] (touch_of Read 0 ∷ []) ++ (touch_of Write (queue_object b) ∷ [])) o) ≡ (queue_object b == o)
notify_mode true b o = queue_alone (queue_object b == o)
notify_mode false b o = after_read (0 == o) (queue_object b == o) (zero_apart b o)

pub wait_mode : (within : Bool) (b o : ℕ) → is_written (mode_at (cond within [] (touch_of Read 0 ∷ []) ++ (touch_of Read (block_object b) ∷ touch_of Write (queue_object b) ∷ [])) o) ≡ (queue_object b == o)
wait_mode true b o = after_read (block_object b == o) (queue_object b == o) (block_apart b b o)
wait_mode false b o = after_reads (0 == o) (block_object b == o) (queue_object b == o) (zero_apart b o) (block_apart b b o)

-- one queue is another one
pub one_queue : (p pages : ℕ) (bytes : List ℕ) (qs rs : ℕ → QueueAt) (b : ℕ) (new : QueueAt) → rs b ≡ new → ((a : ℕ) → a ≢ b → rs a ≡ qs a) → (o : ℕ)
    → object_value p pages bytes rs o ≡ cond (queue_object b == o) (Queue new) (object_value p pages bytes qs o)
one_queue p pages bytes qs rs b new here others o = elim (kinds_of o) [ inl is ↦ length_same is | inr (inl (a, is)) ↦ block a is | inr (inr (a, is)) ↦ elim (cases_eq a b) [ inl e ↦ same a is e | inr ne ↦ other a is ne ] ] where
  length_same : o ≡ 0 → object_value p pages bytes rs o ≡ cond (queue_object b == o) (Queue new) (object_value p pages bytes qs o)
  length_same is =
      let no_o : (queue_object b == o) ≡ false = differ_no (queue_object b) o (λ e. absurd (omega (arith, e, is))) in
      rw (no_o, is) refl

  block : (a : ℕ) → o ≡ block_object a → object_value p pages bytes rs o ≡ cond (queue_object b == o) (Queue new) (object_value p pages bytes qs o)
  block a is =
      let no_o : (queue_object b == o) ≡ false = block_apart a b o (equal_yes (block_object a) o (sym is)) in
      rw (no_o, is) (value_block p pages bytes rs a ∙ sym (value_block p pages bytes qs a))

  same : (a : ℕ) → o ≡ queue_object a → a ≡ b → object_value p pages bytes rs o ≡ cond (queue_object b == o) (Queue new) (object_value p pages bytes qs o)
  same a is e =
      let yes_o : (queue_object b == o) ≡ true = equal_yes (queue_object b) o (ap queue_object (sym e) ∙ sym is) in
      rw (yes_o, is, e) (value_queue p pages bytes rs b ∙ ap Queue here)

  other : (a : ℕ) → o ≡ queue_object a → a ≢ b → object_value p pages bytes rs o ≡ cond (queue_object b == o) (Queue new) (object_value p pages bytes qs o)
  other a is ne =
      let no_o : (queue_object b == o) ≡ false = differ_no (queue_object b) o (λ e. ne (omega (arith, e, is))) in
      rw (no_o, is) (value_queue p pages bytes rs a ∙ (ap Queue (others a ne) ∙ sym (value_queue p pages bytes qs a)))

-- a queue is set where a test holds
pub set_queue : (p pages : ℕ) (bytes : List ℕ) (qs : List QueueAt) (b : ℕ) (new : QueueAt) (test : Bool) → b < length qs → (o : ℕ)
    → object_value p pages bytes (queue_at (cond test (slice_set qs b new) qs)) o ≡ cond (queue_object b == o) (Queue (cond test new (queue_at qs b))) (object_value p pages bytes (queue_at qs) o)
set_queue p pages bytes qs b new true lt o = one_queue p pages bytes (queue_at qs) (queue_at (slice_set qs b new)) b new (get_or-set_same qs b new _ lt) (λ a ne. get_or-set_other qs b a new _ ne) o
set_queue p pages bytes qs b new false lt o = one_queue p pages bytes (queue_at qs) (queue_at qs) b (queue_at qs b) refl (λ a ne. refl) o
