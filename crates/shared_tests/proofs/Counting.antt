-- One more touch is checked.
use Rattle.std.proofs.Common.{◌≡◌, ℕ, ◌+◌, ◌<◌, ◌⊎◌, inl, inr, Bool, true, false, cond, ◌==◌, List, [], ◌∷◌, ◌++◌, length, take, get_or, refl, sym, ap, ◌∙◌, subst}
use Rattle.std.proofs.lemmas.List.{take_more}
use Rattle.std.proofs.lemmas.Bool.Decides.{Decides-eqb}
use Rattle.rw_objects.specs.declared.touch.Touch.{Touch}
use Rattle.rw_objects.specs.declared.count.Count.{Count}
use Rattle.rw_objects.specs.Space.{AllBelow}
use Rattle.rw_objects.specs.Counts.{is_touched, CanCount, count_at}

below_push : (n : ℕ) (ts : List Touch) (t : Touch) → AllBelow n ts → t.object < n → AllBelow n (ts ++ t ∷ [])
below_push n [] t all h = (h, tt)
below_push n (x ∷ xs) t all h = (all.0, below_push n xs t all.1 h)

pub below_more : (n : ℕ) (ts : List Touch) (i : ℕ) (d : Touch) → i < length ts → AllBelow n (take i ts) → (get_or ts i d).object < n → AllBelow n (take (i + 1) ts)
below_more n ts i d within all h = subst (λ (l : List Touch). AllBelow n l) (sym (take_more ts i d within)) (below_push n (take i ts) (get_or ts i d) all h)

touched_push : (ts : List Touch) (t : Touch) (o : ℕ) → is_touched (ts ++ t ∷ []) o ≡ true → (is_touched ts o ≡ true) ⊎ (t.object ≡ o)
touched_push [] t o h = last (t.object == o) refl h where
  last : (b : Bool) → (t.object == o) ≡ b → cond b true false ≡ true → (false ≡ true) ⊎ (t.object ≡ o)
  last true is h = inr ((Decides-eqb t.object o).0 is)
  last false is h = inl h
touched_push (x ∷ xs) t o h = first (x.object == o) (touched_push xs t o) h where
  first : (b : Bool) → (is_touched (xs ++ t ∷ []) o ≡ true → (is_touched xs o ≡ true) ⊎ (t.object ≡ o)) → cond b true (is_touched (xs ++ t ∷ []) o) ≡ true → (cond b true (is_touched xs o) ≡ true) ⊎ (t.object ≡ o)
  first true rest h = inl refl
  first false rest h = rest h

pub counted_more : (counts : List Count) (ts : List Touch) (i : ℕ) (d : Touch) → i < length ts → ((o : ℕ) → is_touched (take i ts) o ≡ true → CanCount (count_at counts o)) → CanCount (count_at counts (get_or ts i d).object)
    → (o : ℕ) → is_touched (take (i + 1) ts) o ≡ true → CanCount (count_at counts o)
counted_more counts ts i d within all h o touched =
    elim (touched_push (take i ts) (get_or ts i d) o (ap (λ (l : List Touch). is_touched l o) (sym (take_more ts i d within)) ∙ touched)) [ inl before ↦ all o before | inr here ↦ subst (λ (p : ℕ). CanCount (count_at counts p)) here h ]
