-- One step of a loop that adds what each element of a list has.
use Rattle.std.proofs.Common.{◌≡◌, ℕ, suc, ◌+◌, ◌-◌, ◌<◌, List, ◌∷◌, ◌++◌, sym, ap, ◌∙◌, arith, append_assoc, drop, get_or, length}
use Rattle.std.specs.List.{flat_map, range_with_len}
use Rattle.std.proofs.lemmas.List.{drop_more}

module _ {X A : Type 0} where
  -- the first element of what is left
  pub rest_more : (f : X → List A) (made all : List A) (rest later : List X) (x : X) → rest ≡ x ∷ later → made ++ flat_map f rest ≡ all → (made ++ f x) ++ flat_map f later ≡ all
  rest_more f made all rest later x is h = append_assoc made (f x) (flat_map f later) ∙ ap (λ (l : List X). made ++ flat_map f l) (sym is) ∙ h

  -- the element at an index
  pub drop_step : (f : X → List A) (made all : List A) (xs : List X) (i : ℕ) (x : X) → i < length xs → x ≡ get_or xs i x → made ++ flat_map f (drop i xs) ≡ all → (made ++ f x) ++ flat_map f (drop (i + 1) xs) ≡ all
  drop_step f made all xs i x lt is h = rest_more f made all (drop i xs) (drop (i + 1) xs) x (drop_more xs i x lt ∙ ap (λ (y : X). y ∷ drop (i + 1) xs) (sym is)) h

-- the threads from t on
threads_from : (t : ℕ) → t < 16 → range_with_len t (16 - t) ≡ t ∷ range_with_len (t + 1) (16 - (t + 1))
threads_from t lt = let one : 16 - t ≡ suc (16 - (t + 1)) = omega arith in ap (λ n. range_with_len t n) one

pub thread_more : {A : Type 0} (f : ℕ → List A) (made all : List A) (t : ℕ) → t < 16 → made ++ flat_map f (range_with_len t (16 - t)) ≡ all → (made ++ f t) ++ flat_map f (range_with_len (t + 1) (16 - (t + 1))) ≡ all
thread_more f made all t lt h = rest_more f made all (range_with_len t (16 - t)) (range_with_len (t + 1) (16 - (t + 1))) t (threads_from t lt) h
