-- Texts that are put one behind the other.
use Rattle.std.proofs.Common.{◌≡◌, ◌<◌, ◌+◌, ◌-◌, ℕ, suc, Bool, false, List, ◌∷◌, ◌++◌, length, drop, get_or, ap, sym, ◌∙◌, append_assoc, arith}
use Rattle.std.specs.List.{flat_map, range_with_len}
use Rattle.std.proofs.lemmas.List.{drop_more}
use Rattle.replica.proofs.Steps.{rest_more}
use Rattle.replica.specs.declared.versions_met.Mark.{Mark}
use Rattle.replica.specs.ObjectLines.{LineValue}
use Rattle.replica.specs.Drawing.{numbered, columns_of, mark_text, separator, marks_text}
use Rattle.std.specs.Prelude.{max}

pub two : (t a b : List ℕ) → (t ++ a) ++ b ≡ t ++ (a ++ b)
two t a b = append_assoc t a b

pub three : (t a b c : List ℕ) → ((t ++ a) ++ b) ++ c ≡ t ++ (a ++ (b ++ c))
three t a b c = append_assoc (t ++ a) b c ∙ append_assoc t a (b ++ c)

pub four : (t a b c d : List ℕ) → (((t ++ a) ++ b) ++ c) ++ d ≡ t ++ (a ++ (b ++ (c ++ d)))
four t a b c d = append_assoc ((t ++ a) ++ b) c d ∙ three t a b (c ++ d)

pub five : (t a b c d e : List ℕ) → ((((t ++ a) ++ b) ++ c) ++ d) ++ e ≡ t ++ (a ++ (b ++ (c ++ (d ++ e))))
five t a b c d e = append_assoc (((t ++ a) ++ b) ++ c) d e ∙ four t a b c (d ++ e)

-- the element at an index
left_at : {X : Type 0} (xs : List X) (i : ℕ) (x : X) → i < length xs → x ≡ get_or xs i x → drop i xs ≡ x ∷ drop (i + 1) xs
left_at xs i x lt is = drop_more xs i x lt ∙ ap (λ y. y ∷ drop (i + 1) xs) (sym is)

-- one element more of a numbered list
pub numbered_more : {X : Type 0} (part : ℕ → X → List ℕ) (made now all : List ℕ) (xs : List X) (i : ℕ) (x : X) → i < length xs → x ≡ get_or xs i x
    → now ≡ made ++ part i x → made ++ numbered part i (drop i xs) ≡ all → now ++ numbered part (i + 1) (drop (i + 1) xs) ≡ all
numbered_more part made now all xs i x lt is put h =
    ap (λ (l : List ℕ). l ++ numbered part (i + 1) (drop (i + 1) xs)) put ∙ append_assoc made (part i x) (numbered part (i + 1) (drop (i + 1) xs))
    ∙ ap (λ l. made ++ numbered part i l) (sym (left_at xs i x lt is)) ∙ h

-- one touch more of an access
pub marks_more : (is_first : Bool) (made now all : List ℕ) (xs : List Mark) (i : ℕ) (d : Mark) → i < length xs
    → now ≡ (made ++ separator is_first) ++ mark_text (get_or xs i d) → made ++ marks_text is_first (drop i xs) ≡ all → now ++ marks_text false (drop (i + 1) xs) ≡ all
marks_more is_first made now all xs i d lt put h =
    ap (λ (l : List ℕ). l ++ marks_text false (drop (i + 1) xs)) put
    ∙ three made (separator is_first) (mark_text (get_or xs i d)) (marks_text false (drop (i + 1) xs))
    ∙ ap (λ (l : List Mark). made ++ marks_text is_first l) (sym (drop_more xs i d lt)) ∙ h

-- one number more of a range
pub range_more : (f : ℕ → List ℕ) (made now all : List ℕ) (n t : ℕ) → t < n → now ≡ made ++ f t → made ++ flat_map f (range_with_len t (n - t)) ≡ all
    → now ++ flat_map f (range_with_len (t + 1) (n - (t + 1))) ≡ all
range_more f made now all n t lt put h =
    ap (λ (l : List ℕ). l ++ flat_map f (range_with_len (t + 1) (n - (t + 1)))) put
    ∙ rest_more f made all (range_with_len t (n - t)) (range_with_len (t + 1) (n - (t + 1))) t (let one : n - t ≡ suc (n - (t + 1)) = omega arith in ap (λ k. range_with_len t k) one) h

-- one line more of those whose greatest thread is asked for
pub columns_more : (xs : List LineValue) (i : ℕ) (x : LineValue) (old all : ℕ) → i < length xs → x ≡ get_or xs i x → max old (columns_of (drop i xs)) ≡ all
    → max (max old (x.thread + 1)) (columns_of (drop (i + 1) xs)) ≡ all
columns_more xs i x old all lt is h =
    let rest = columns_of (drop (i + 1) xs) in
    let next : max old (max (x.thread + 1) rest) ≡ all = ap (λ (l : List LineValue). max old (columns_of l)) (sym (left_at xs i x lt is)) ∙ h in
    either old (x.thread + 1) rest ∙ next
  where
    either : (a b c : ℕ) → max (max a b) c ≡ max a (max b c)
    either a b c = omega arith
