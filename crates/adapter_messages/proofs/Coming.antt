-- What a source brings behind what it brought.
use Rattle.std.proofs.Common.{◌≡◌, ◌≢◌, ℕ, List, [], ◌∷◌, ◌++◌, length, true, false, refl, sym, subst, arith, length-append}
use Rattle.std.specs.Prelude.{◌==◌}
use Rattle.std.proofs.lemmas.Bool.{eqb-true}
use Rattle.std.proofs.lemmas.List.{append-nil}
use Rattle.std.proofs.lemmas.List.Elements.{All-append, All-cons, All-nil}
use Rattle.adapter_messages.specs.HeaderLines.{HasNoEnd}

pub no_end_more : (text : List ℕ) (b : ℕ) → HasNoEnd text → b ≢ 10 → HasNoEnd (text ++ b ∷ [])
no_end_more text b plain other = All-append (λ (c : ℕ). c ≢ 10) text (b ∷ []) plain (All-cons (λ (c : ℕ). c ≢ 10) b [] other (All-nil (λ (c : ℕ). c ≢ 10)))

pub none_of : (text : List ℕ) → true ≡ (length text == 0) → text ≡ []
none_of [] h = refl
none_of (b ∷ bs) h = absurd (let e : length (b ∷ bs) ≡ 0 = eqb-true (length (b ∷ bs)) 0 (sym h) in omega (arith, e))

pub some_of : (text : List ℕ) → false ≡ (length text == 0) → text ≢ []
some_of [] h e = absurd cc
some_of (b ∷ bs) h e = absurd cc

pub one_longer : (text : List ℕ) (b : ℕ) → true ≡ (length text == 1025) → length (text ++ b ∷ []) ≡ 1026
one_longer text b h = let e : length text ≡ 1025 = eqb-true (length text) 1025 (sym h) in omega (arith, length-append text (b ∷ []))

module _ {S : Type 0} (brings : S → List ℕ → S → Type 0) (more : (s t u : S) (xs ys : List ℕ) → brings s xs t → brings t ys u → brings s (xs ++ ys) u) where
  -- nothing more came
  pub nothing_more : (s t u : S) (xs ys : List ℕ) → ys ≡ [] → brings s xs t → brings t ys u → brings s xs u
  nothing_more s t u xs ys none first last = subst (λ (l : List ℕ). brings s l u) (append-nil xs) (more s t u xs [] first (subst (λ (l : List ℕ). brings t l u) none last))
