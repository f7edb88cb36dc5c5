-- Lists of legs.
use Rattle.std.proofs.Common.{◌≡◌, ℕ, zero, suc, ◌+◌, ◌==◌, Bool, true, false, cond, List, [], ◌∷◌, ◌++◌, refl, sym, ap, ◌∙◌}
use Rattle.std.proofs.lemmas.Bool.Decides.{Decides-eqb}
use Rattle.replay_session.specs.declared.legs.Leg.{Leg}
use Rattle.replay_session.specs.declared.legs.Leg.TheVariants as leg
use Rattle.replay_session.specs.Legs.{joined, longer, with_thread}

-- what becomes of the last leg
pub longer_last : (xs : List Leg) (l : Leg) (t n : ℕ) → longer (xs ++ (l ∷ [])) t n ≡ xs ++ joined l t n
longer_last [] l t n = refl
longer_last (x ∷ []) l t n = refl
longer_last (x ∷ y ∷ ys) l t n = ap (λ zs. x ∷ zs) (longer_last (y ∷ ys) l t n)

-- ---- steps of a thread behind a last leg

two_behind : (xs : List Leg) (a b : Leg) → (xs ++ (a ∷ [])) ++ (b ∷ []) ≡ xs ++ (a ∷ b ∷ [])
two_behind [] a b = refl
two_behind (x ∷ xs) a b = ap (λ zs. x ∷ zs) (two_behind xs a b)

put_behind : (old init new : List Leg) (last : Leg) (t n : ℕ) → (n ≡ 0 → ⊥) → old ≡ init ++ (last ∷ []) → new ≡ init ++ joined last t n → new ≡ with_thread old t n
put_behind old init new last t zero some is after = absurd (some refl)
put_behind old init new last t (suc n) some is after = after ∙ sym (longer_last init last t (suc n)) ∙ ap (λ xs. longer xs t (suc n)) (sym is)

other_tests : (s t : ℕ) → (s ≡ t → ⊥) → (s == t) ≡ false
other_tests s t d = go (s == t) refl
  where
    go : (b : Bool) → (s == t) ≡ b → b ≡ false
    go true q = absurd (d ((Decides-eqb s t).0 q))
    go false q = refl

pub put_same : (old init new : List Leg) (s m t n : ℕ) → (n ≡ 0 → ⊥) → old ≡ init ++ (leg.Thread s m ∷ []) → s ≡ t → new ≡ init ++ (leg.Thread t (m + n) ∷ []) → new ≡ with_thread old t n
put_same old init new s m t n some is same after =
    put_behind old init new (leg.Thread s m) t n some is
    (after ∙ ap (λ b. init ++ cond b (leg.Thread t (m + n) ∷ []) (leg.Thread s m ∷ leg.Thread t n ∷ [])) (sym ((Decides-eqb s t).1 same)))

pub put_other : (old init new : List Leg) (s m t n : ℕ) → (n ≡ 0 → ⊥) → old ≡ init ++ (leg.Thread s m ∷ []) → (s ≡ t → ⊥) → new ≡ (init ++ (leg.Thread s m ∷ [])) ++ (leg.Thread t n ∷ []) → new ≡ with_thread old t n
put_other old init new s m t n some is other after =
    put_behind old init new (leg.Thread s m) t n some is
    (after ∙ two_behind init (leg.Thread s m) (leg.Thread t n)
    ∙ ap (λ b. init ++ cond b (leg.Thread t (m + n) ∷ []) (leg.Thread s m ∷ leg.Thread t n ∷ [])) (sym (other_tests s t other)))

pub put_rounds : (old init new : List Leg) (m t n : ℕ) → (n ≡ 0 → ⊥) → old ≡ init ++ (leg.Rounds m ∷ []) → new ≡ (init ++ (leg.Rounds m ∷ [])) ++ (leg.Thread t n ∷ []) → new ≡ with_thread old t n
put_rounds old init new m t n some is after = put_behind old init new (leg.Rounds m) t n some is (after ∙ two_behind init (leg.Rounds m) (leg.Thread t n))
