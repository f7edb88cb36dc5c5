-- Texts of which a beginning was taken.
use Rattle.std.proofs.Common.{◌≡◌, ℕ, List, ◌++◌, Result, Ok, Err, OnOk, OnErr, ap, ◌∙◌, sym, append_assoc}

pub on_ok : {X E P Q : Type 0} (r : Result X E) → (P → Q) → OnOk r P → OnOk r Q
on_ok (Ok x) f h = f h
on_ok (Err e) f h = _

pub on_err : {X E P Q : Type 0} (r : Result X E) → (P → Q) → OnErr r P → OnErr r Q
on_err (Ok x) f h = _
on_err (Err e) f h = f h

module _ {S : Type 0} (takes : S → List ℕ → S → Type 0) (more : (s t u : S) (xs ys : List ℕ) → takes s xs t → takes t ys u → takes s (xs ++ ys) u) where
  abbrev pub Begins : List ℕ → S → S → Type 0
  Begins text s u = (part : List ℕ) × (rest : List ℕ) × (text ≡ part ++ rest) × takes s part u

  -- of the head, before the body
  pub begins_first : (head body : List ℕ) (s u : S) → Begins head s u → Begins (head ++ body) s u
  begins_first head body s u (part, rest, cut, took) = (part, rest ++ body, ap (λ (t : List ℕ). t ++ body) cut ∙ append_assoc part rest body, took)

  -- of the body, behind the head
  pub begins_behind : (head body : List ℕ) (s t u : S) → takes s head t → Begins body t u → Begins (head ++ body) s u
  begins_behind head body s t u first (part, rest, cut, took) = (head ++ part, rest, ap (λ (b : List ℕ). head ++ b) cut ∙ sym (append_assoc head part rest), more s t u head part first took)
