-- Waiter queues that are made, among all.
use Rattle.std.proofs.Common.{◌≡◌, ℕ, zero, suc, refl, ◌+◌, ◌-◌, ◌<◌, ◌≤◌, List, [], ◌∷◌, ◌++◌, length, replicate, get_or, slice_set, sym, ap, ◌∙◌, arith, append_assoc}
use Rattle.std.proofs.lemmas.List.{length-append, length-set, length-replicate, set-append_left, get_or_append_left, get_or_default, set-get_or}
use Rattle.std.proofs.Math.Seq.{get_or-append_right}
use Rattle.block_objects.specs.Objects.{QueueAt}
use Rattle.block_objects.specs.Queues.{no_waiters}
use Rattle.waiter_queues.specs.Made.{all_queues}

-- a queue that is made changes among all
pub set_made : (count block : ℕ) (made : List QueueAt) (q : QueueAt) → block < length made → all_queues count (slice_set made block q) ≡ slice_set (all_queues count made) block q
set_made count block made q l =
    ap (λ n. slice_set made block q ++ replicate (count - n) no_waiters) (length-set made block q)
    ∙ sym (set-append_left made (replicate (count - length made) no_waiters) block q l)

-- and is the one that is seen there
pub seen_made : (count block : ℕ) (made : List QueueAt) (d : QueueAt) → block < length made → get_or (all_queues count made) block d ≡ get_or made block d
seen_made count block made d l = get_or_append_left made (replicate (count - length made) no_waiters) d block l

-- one that is made anew changes nothing
pub one_made : (count : ℕ) (made : List QueueAt) → length made < count → all_queues count (made ++ no_waiters ∷ []) ≡ all_queues count made
one_made count made l =
    let more : length (made ++ no_waiters ∷ []) ≡ length made + 1 = length-append made (no_waiters ∷ []) in
    let left : count - length made ≡ suc (count - (length made + 1)) = omega (arith, l) in
    ap (λ n. (made ++ no_waiters ∷ []) ++ replicate (count - n) no_waiters) more
    ∙ append_assoc made (no_waiters ∷ []) (replicate (count - (length made + 1)) no_waiters)
    ∙ ap (λ n. made ++ replicate n no_waiters) (sym left)

-- a queue changes as one of those that are made
pub changed_made : (count block : ℕ) (made all : List QueueAt) (f : QueueAt → QueueAt) (q new : QueueAt) → all_queues count made ≡ all → block < length made → q ≡ get_or made block q → new ≡ f q
    → all_queues count (slice_set made block new) ≡ slice_set all block (f (get_or all block no_waiters))
changed_made count block made all f q new e l is to =
    ap (λ x. all_queues count (slice_set made block x)) (to ∙ ap f (is ∙ get_or_default made block q no_waiters l ∙ sym (seen_made count block made no_waiters l)))
    ∙ set_made count block made (f (get_or (all_queues count made) block no_waiters)) l
    ∙ ap (λ xs. slice_set xs block (f (get_or xs block no_waiters))) e

-- a block that has a queue is below their number
pub below_count : (count block : ℕ) (made all : List QueueAt) → all_queues count made ≡ all → length made ≤ count → block < length all → block < count
below_count count block made all e few l =
    let sum : length all ≡ length made + (count - length made) = ap length (sym e) ∙ (length-append made (replicate (count - length made) no_waiters) ∙ ap (λ n. length made + n) (length-replicate (count - length made) no_waiters)) in
    omega (arith, sum, few, l)

no_one : (n b : ℕ) → get_or (replicate n no_waiters) b no_waiters ≡ no_waiters
no_one zero b = refl
no_one (suc n) zero = refl
no_one (suc n) (suc b) = no_one n b

-- where nobody stands in a queue that is not made, nothing changes
pub put_nobody : (count block : ℕ) (made : List QueueAt) (q : QueueAt) → length made ≤ block → q ≡ no_waiters → all_queues count made ≡ slice_set (all_queues count made) block q
put_nobody count block made q past is =
    let there : get_or (all_queues count made) block no_waiters ≡ no_waiters = get_or-append_right made (replicate (count - length made) no_waiters) block no_waiters past ∙ no_one (count - length made) (block - length made) in
    sym (ap (slice_set (all_queues count made) block) (is ∙ sym there) ∙ set-get_or (all_queues count made) block no_waiters)
