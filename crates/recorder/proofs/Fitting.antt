-- A schedule without one of its stretches.
use Rattle.std.proofs.Common.{◌≡◌, ℕ, zero, suc, ◌+◌, ◌≤◌, ◌&&◌, Bool, true, false, List, [], ◌∷◌, ◌++◌, length, take, drop, refl, sym, ap, ◌∙◌, arith, length-append, ◌<◌, ◌⊎◌, inl, inr}
use Rattle.std.specs.Prelude.{nat_le}
use Rattle.std.proofs.lemmas.List.Folds.{list_all-append}
use Rattle.event_core.specs.declared.pick.Pick.{Pick}
use Rattle.pick_schedule.specs.declared.stretches.Stretch.{Stretch}
use Rattle.pick_schedule.specs.Printing.{are_of_threads}
use Rattle.pick_schedule.specs.Stretches.{picks_of, picks_in}
use Rattle.recorder.specs.Least.{without}

first_so : (a b : Bool) → (a && b) ≡ true → a ≡ true
first_so true b h = refl
first_so false b h = absurd (cc)

second_so : (a b : Bool) → (a && b) ≡ true → b ≡ true
second_so true b h = h
second_so false b h = absurd (cc)

both : (a b : Bool) → a ≡ true → b ≡ true → (a && b) ≡ true
both a b e f = ap (λ x. x && b) e ∙ f

-- it has no more picks
pub fewer_picks : (ss : List Stretch) (at : ℕ) → length (picks_in (without at ss)) ≤ length (picks_in ss)
fewer_picks [] zero = omega arith
fewer_picks [] (suc at) = omega arith
fewer_picks (s ∷ ss) zero = let n = length-append (picks_of s) (picks_in ss) in omega (arith, n)
fewer_picks (s ∷ ss) (suc at) =
    let n = length-append (picks_of s) (picks_in ss) in
    let m = length-append (picks_of s) (picks_in (without at ss)) in
    let k = fewer_picks ss at in
    omega (arith, n, m, k)

-- and none of another thread
pub same_threads : (ss : List Stretch) (at : ℕ) → are_of_threads (picks_in ss) ≡ true → are_of_threads (picks_in (without at ss)) ≡ true
same_threads [] zero h = refl
same_threads [] (suc at) h = refl
same_threads (s ∷ ss) zero h = second_so _ _ (sym (list_all-append (λ p. nat_le p.thread 15) (picks_of s) (picks_in ss)) ∙ h)
same_threads (s ∷ ss) (suc at) h =
    let parts : (are_of_threads (picks_of s) && are_of_threads (picks_in ss)) ≡ true = sym (list_all-append (λ p. nat_le p.thread 15) (picks_of s) (picks_in ss)) ∙ h in
    list_all-append (λ p. nat_le p.thread 15) (picks_of s) (picks_in (without at ss)) ∙ both _ _ (first_so _ _ parts) (same_threads ss at (second_so _ _ parts))

-- so it is a schedule
pub is_schedule : (ss : List Stretch) (at : ℕ) → length (picks_in ss) ≤ 1000000 → are_of_threads (picks_in ss) ≡ true
    → (1000000 < length (picks_in (without at ss))) ⊎ (are_of_threads (picks_in (without at ss)) ≡ false) → ⊥
is_schedule ss at few all (inl many) = let k = fewer_picks ss at in absurd (omega (arith, few, many, k))
is_schedule ss at few all (inr other) = let k : true ≡ false = sym (same_threads ss at all) ∙ other in absurd (cc)
