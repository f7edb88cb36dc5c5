-- Texts of which a beginning was taken.
use Rattle.std.proofs.Common.{◌≡◌, ℕ, List, [], ◌++◌, Result, Ok, Err, OnErr, ap, ◌∙◌, sym, subst, append_assoc}
use Rattle.std.proofs.lemmas.List.{append-nil}

pub on_err : {X E P Q : Type 0} (r : Result X E) → (P → Q) → OnErr r P → OnErr r Q
on_err (Ok x) f h = _
on_err (Err e) f h = f h

module _ {S : Type 0} (takes : S → List ℕ → S → Type 0) (more : (s t u : S) (xs ys : List ℕ) → takes s xs t → takes t ys u → takes s (xs ++ ys) u) where
  abbrev pub Begins : List ℕ → S → S → Type 0
  Begins text s u = (part : List ℕ) × (rest : List ℕ) × (text ≡ part ++ rest) × takes s part u

  pub begins_first : (text head body : List ℕ) (s u : S) → text ≡ head ++ body → Begins head s u → Begins text s u
  begins_first text head body s u is (part, rest, cut, took) = (part, rest ++ body, is ∙ ap (λ (t : List ℕ). t ++ body) cut ∙ append_assoc part rest body, took)

  pub begins_behind : (text head body : List ℕ) (s t u : S) → text ≡ head ++ body → takes s head t → Begins body t u → Begins text s u
  begins_behind text head body s t u is first (part, rest, cut, took) = (head ++ part, rest, is ∙ ap (λ (b : List ℕ). head ++ b) cut ∙ sym (append_assoc head part rest), more s t u head part first took)

  -- nothing more came
  pub nothing_more : (s t u : S) (xs ys : List ℕ) → ys ≡ [] → takes s xs t → takes t ys u → takes s xs u
  nothing_more s t u xs ys none first last = subst (λ (l : List ℕ). takes s l u) (append-nil xs) (more s t u xs [] first (subst (λ (l : List ℕ). takes t l u) none last))
