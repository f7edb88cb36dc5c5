-- Stretches that are made longer.
use Rattle.std.proofs.Common.{◌≡◌, ℕ, zero, suc, ◌+◌, ◌≤◌, List, [], ◌∷◌, ◌++◌, length, replicate, get_or, set, refl, sym, ap, ◌∙◌, arith, append_assoc, length-append}
use Rattle.std.proofs.lemmas.List.{append-nil, length-replicate}
use Rattle.event_core.specs.declared.pick.Pick.{Pick}
use Rattle.pick_schedule.specs.declared.stretches.Stretch.{Stretch}
use Rattle.pick_schedule.specs.Stretches.{picks_of, picks_in}

parts : (m n : ℕ) (p : Pick) → replicate (m + n) p ≡ replicate m p ++ replicate n p
parts zero n p = let z : 0 + n ≡ n = omega arith in ap (λ k. replicate k p) z
parts (suc m) n p = let z : suc m + n ≡ suc (m + n) = omega arith in ap (λ k. replicate k p) z ∙ ap (λ l. p ∷ l) (parts m n p)

-- the last stretch is no longer than all picks
pub last_fits : (ss : List Stretch) (d : Stretch) (i : ℕ) → i + 1 ≡ length ss → (get_or ss i d).times ≤ length (picks_in ss)
last_fits [] d i e = absurd (omega arith)
last_fits (s ∷ ss) d zero e = let n = length-append (picks_of s) (picks_in ss) in let k = length-replicate s.times s.pick in omega (arith, n, k)
last_fits (s ∷ ss) d (suc i) e = let n = length-append (picks_of s) (picks_in ss) in let k = last_fits ss d i (omega (arith, e)) in omega (arith, n, k)

-- the picks of the last stretch stand behind the others
pub lengthened : (ss : List Stretch) (d : Stretch) (i n : ℕ) (p : Pick) → i + 1 ≡ length ss → (get_or ss i d).pick ≡ p
    → picks_in (set ss i (record { pick = (get_or ss i d).pick; times = (get_or ss i d).times + n })) ≡ picks_in ss ++ replicate n p
lengthened [] d i n p e is = absurd (omega arith)
lengthened (s ∷ []) d zero n p e is =
    append-nil _ ∙ parts s.times n s.pick ∙ ap (λ q. replicate s.times s.pick ++ replicate n q) is ∙ ap (λ l. l ++ replicate n p) (sym (append-nil (replicate s.times s.pick)))
lengthened (s ∷ t ∷ ss) d zero n p e is = absurd (omega (arith, e))
lengthened (s ∷ ss) d (suc i) n p e is = ap (λ l. picks_of s ++ l) (lengthened ss d i n p (omega (arith, e)) is) ∙ sym (append_assoc (picks_of s) (picks_in ss) (replicate n p))
