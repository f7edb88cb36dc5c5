-- What is done to a queue keeps it within its room.
use Rattle.std.proofs.Common.{◌≡◌, ℕ, ◌+◌, ◌-◌, ◌<◌, ◌≤◌, Bool, true, false, cond, not, ◌==◌, ◌&&◌, ◌||◌, nat_lt, List, [], ◌∷◌, ◌++◌, length, map, drop, refl, sym, ap, ◌∙◌, arith}
use Rattle.std.specs.List.{filter, list_any}
use Rattle.std.proofs.lemmas.List.{length-append, length-map, drop_all, append-nil}
use Rattle.std.proofs.lemmas.Bool.Decides.{Decides-eqb}
use Rattle.block_objects.specs.declared.waiter.Waiter.{Waiter}
use Rattle.block_objects.specs.Objects.{QueueAt}
use Rattle.block_objects.specs.Queues.{waiter_of, stands_in, is_woken, chosen, left_waiting, after_notify, after_resume, after_time_out}
use Rattle.waiter_queues.specs.Kept.{times, times_in, IsKept}
use Rattle.waiter_queues.proofs.Counts.{times_append, times_none, times_filter, times_map, few_numbers}

threads_of : QueueAt → List ℕ
threads_of q = map (λ w. w.thread) q.waiting ++ q.woken

times_of : (q : QueueAt) (t : ℕ) → times (λ u. u == t) (threads_of q) ≡ times_in q t
unfolding threads_of
times_of q t = times_append (λ u. u == t) (map (λ w. w.thread) q.waiting) q.woken ∙ ap (λ n. n + times (λ u. u == t) q.woken) (times_map (λ w. w.thread) (λ u. u == t) q.waiting)

few_of : (q : QueueAt) → ((t : ℕ) → times_in q t ≤ 1) → ((t : ℕ) → 16 ≤ t → times_in q t ≡ 0) → length q.waiting + length q.woken ≤ 16
unfolding threads_of
few_of q once none =
    let few : length (threads_of q) ≤ 16 = few_numbers 16 (threads_of q) (λ t. omega (arith, times_of q t, once t)) (λ t h. times_of q t ∙ none t h) in
    omega (arith, few, length-append (map (λ w. w.thread) q.waiting) q.woken, length-map q.waiting (λ w. w.thread))

pub kept_of : (q : QueueAt) → ((t : ℕ) → times_in q t ≤ 1) → ((t : ℕ) → 16 ≤ t → times_in q t ≡ 0) → IsKept q
kept_of q once none = record { once = once; none_above = none; few = few_of q once none }

-- lists in which no thread stands oftener
pub kept_fewer : (p q : QueueAt) → IsKept p → ((t : ℕ) → times_in q t ≤ times_in p t) → IsKept q
kept_fewer p q kept less = kept_of q (λ t. omega (arith, less t, kept.once t)) (λ t h. let z : times_in p t ≡ 0 = kept.none_above t h in omega (arith, less t, z))

neither : (a b : Bool) → (a || b) ≡ false → (a ≡ false) × (b ≡ false)
neither true b h = absurd (cc)
neither false b h = (refl, h)

-- a thread below 16 that stood in no list waits
pub kept_wait : (q : QueueAt) (thread address : ℕ) → IsKept q → thread < 16 → stands_in thread q ≡ false → IsKept (record { waiting = q.waiting ++ waiter_of thread address ∷ []; woken = q.woken })
kept_wait q thread address kept low out = kept_of _ once none where
  none_here : times_in q thread ≡ 0
  none_here =
      let parts = neither (list_any (λ w. w.thread == thread) q.waiting) (is_woken thread q) out in
      let m = times_none (λ w. w.thread == thread) q.waiting parts.0 in
      let n = times_none (λ t. t == thread) q.woken parts.1 in
      omega (arith, m, n)

  more : (t : ℕ) → times_in (record { waiting = q.waiting ++ waiter_of thread address ∷ []; woken = q.woken }) t ≡ times_in q t + cond (thread == t) 1 0
  more t = omega (arith, times_append (λ w. w.thread == t) q.waiting (waiter_of thread address ∷ []))

  same : (t : ℕ) (b : Bool) → (thread == t) ≡ b → times_in q t + cond b 1 0 ≤ 1
  same t true is = let e : thread ≡ t = (Decides-eqb thread t).0 is in let z : times_in q t ≡ 0 = rw e at none_here in omega (arith, z)
  same t false is = omega (arith, kept.once t)

  once : (t : ℕ) → times_in (record { waiting = q.waiting ++ waiter_of thread address ∷ []; woken = q.woken }) t ≤ 1
  once t = let s = same t (thread == t) refl in omega (arith, more t, s)

  above : (t : ℕ) (b : Bool) → 16 ≤ t → (thread == t) ≡ b → times_in q t + cond b 1 0 ≡ 0
  above t true h is = let e : thread ≡ t = (Decides-eqb thread t).0 is in absurd (omega (arith, e))
  above t false h is = let z : times_in q t ≡ 0 = kept.none_above t h in omega (arith, z)

  none : (t : ℕ) → 16 ≤ t → times_in (record { waiting = q.waiting ++ waiter_of thread address ∷ []; woken = q.woken }) t ≡ 0
  none t h = more t ∙ above t (thread == t) h refl

moved_first : (w : Waiter) (t : ℕ) (b : Bool) (some : List Waiter) (chose : List ℕ) (all : List Waiter) (none : List ℕ) (n : ℕ)
    → times (λ v. v.thread == t) some + times (λ u. u == t) chose ≡ n → times (λ v. v.thread == t) all + times (λ u. u == t) none ≡ n
    → times (λ v. v.thread == t) (cond b some (w ∷ all)) + times (λ u. u == t) (cond b (w.thread ∷ chose) none) ≡ cond (w.thread == t) 1 0 + n
moved_first w t true some chose all none n h k = omega (arith, h)
moved_first w t false some chose all none n h k = omega (arith, k)

-- a notify moves threads from one list to the other
pub moved : (address n : ℕ) (ws : List Waiter) (t : ℕ) → times (λ w. w.thread == t) (left_waiting address n ws) + times (λ u. u == t) (chosen address n ws) ≡ times (λ w. w.thread == t) ws
moved address n [] t = refl
moved address n (w ∷ ws) t = moved_first w t (nat_lt 0 n && (w.address == address)) _ _ _ _ _ (moved address (n - 1) ws t) (moved address n ws t)

pub kept_notify : (q : QueueAt) (address count : ℕ) → IsKept q → IsKept (after_notify address count q)
kept_notify q address count kept = kept_fewer q _ kept less where
  less : (t : ℕ) → times_in (after_notify address count q) t ≤ times_in q t
  less t = omega (arith, moved address count q.waiting t, times_append (λ u. u == t) q.woken (chosen address count q.waiting))

pub kept_resume : (q : QueueAt) (thread : ℕ) → IsKept q → IsKept (after_resume thread q)
kept_resume q thread kept = kept_fewer q _ kept (λ t. omega (arith, times_filter (λ u. u == t) (λ u. not (u == thread)) q.woken))

pub kept_time_out : (q : QueueAt) (thread address : ℕ) → IsKept q → IsKept (after_time_out thread address q)
kept_time_out q thread address kept = kept_fewer q _ kept (λ t. omega (arith, times_filter (λ w. w.thread == t) (λ w. not ((w.thread == thread) && (w.address == address))) q.waiting))

-- a waiter comes only where its queue has room
pub room_of : (q : QueueAt) (thread address : ℕ) → IsKept q → thread < 16 → stands_in thread q ≡ false → length q.waiting < 16
room_of q thread address kept low out =
    let k = kept_wait q thread address kept low out in
    omega (arith, k.few, length-append q.waiting (waiter_of thread address ∷ []))

-- a loop that filters is done
pub filtered_all : {X : Type 0} (p : X → Bool) (xs ys : List X) (i : ℕ) → length ys ≤ i → xs ++ filter p (drop i ys) ≡ filter p ys → xs ≡ filter p ys
filtered_all p xs ys i h e = let none = drop_all i ys h in sym (append-nil xs) ∙ (ap (λ l. xs ++ filter p l) (sym none) ∙ e)
