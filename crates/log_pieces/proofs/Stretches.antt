-- Items joined page by page.
use Rattle.std.proofs.Common.{◌≡◌, ℕ, suc, ◌+◌, Bool, List, [], ◌∷◌, ◌++◌, length, take, refl, sym, ap, subst, ◌∙◌, append_assoc, arith, inl, inr}
use Rattle.std.specs.Bool.{Decides}
use Rattle.std.proofs.lemmas.Bool.{cases_lt}
use Rattle.std.proofs.lemmas.List.{append-nil, take-append-le, take_all}
use Rattle.log_pieces.specs.declared.flat.Flat.{Flat}
use Rattle.log_pieces.specs.Pages.{ClaimsJoined}
use Rattle.log_pieces.proofs.OneClaim.{length-append_is}
use Rattle.log_pieces.proofs.Joining.{joined_none, joined_more}

-- the items before `rest` are joined
pub record StretchesJoined {T : Type 0} (eq : T → T → Bool) (old : List (ℕ × Flat T)) (first : ℕ) (items : List T) (place : ℕ) (rest : List T) (cur : List (ℕ × Flat T)) : Type 0 where
  pub done : List T
  pub parts : items ≡ done ++ rest
  pub joined : ClaimsJoined eq old first done cur
  pub place_is : place ≡ first + length done

pub none_joined : {T : Type 0} (eq : T → T → Bool) (old : List (ℕ × Flat T)) (first : ℕ) (items : List T) → StretchesJoined eq old first items first items old
none_joined eq old first items = record { done = []; parts = refl; joined = joined_none eq old first; place_is = omega arith }

module _ {T : Type 0} {eq : T → T → Bool} {old cur : List (ℕ × Flat T)} {first place : ℕ} {items rest : List T} (s : StretchesJoined eq old first items place rest cur) where
  pub all_joined : rest ≡ [] → ClaimsJoined eq old first items cur
  all_joined end =
      let all : items ≡ s.done = s.parts ∙ ap (λ (l : List T). s.done ++ l) end ∙ append-nil s.done in
      subst (λ (l : List T). ClaimsJoined eq old first l cur) (sym all) s.joined

  pub places_within : place + length rest ≡ first + length items
  places_within = let l = ap length s.parts ∙ length-append_is s.done rest in omega (arith, s.place_is)

  pub stretch_more : ((x y : T) → Decides (eq x y) (x ≡ y)) → (now later : List T) → rest ≡ now ++ later → (at : ℕ) → at ≡ place → (new : List (ℕ × Flat T)) → ClaimsJoined eq cur at now new
      → (next : ℕ) → next ≡ place + length now → StretchesJoined eq old first items next later new
  stretch_more decides now later split at is new joined next next_is = record {
    done = s.done ++ now;
    parts = s.parts ∙ ap (λ (l : List T). s.done ++ l) split ∙ sym (append_assoc s.done now later);
    joined = joined_more eq decides old cur new first at s.done now (is ∙ s.place_is) s.joined joined;
    place_is = let l = length-append_is s.done now in omega (arith, s.place_is);
  }

  take_past : (xs ys : List T) (j : ℕ) → take (length xs + j) (xs ++ ys) ≡ xs ++ take j ys
  take_past [] ys j = let e : 0 + j ≡ j = omega arith in ap (λ (n : ℕ). take n ys) e
  take_past (x ∷ xs) ys j = let e : suc (length xs) + j ≡ suc (length xs + j) = omega arith in ap (λ (n : ℕ). take n (x ∷ (xs ++ ys))) e ∙ ap (λ (l : List T). x ∷ l) (take_past xs ys j)

  part_of : (now later : List T) (j : ℕ) → (k : ℕ) × (take k (now ++ later) ≡ take j now)
  part_of now later j = elim (cases_lt j (length now)) [
    | inl lt ↦ (j, take-append-le j now later (omega arith))
    | inr ge ↦ (length now, take-append-le (length now) now later (omega arith) ∙ take_all (length now) now (omega arith) ∙ sym (take_all j now ge))
  ]

  -- the first of the stretch were joined
  pub stretch_left : ((x y : T) → Decides (eq x y) (x ≡ y)) → (now later : List T) → rest ≡ now ++ later → (at : ℕ) → at ≡ place → (new : List (ℕ × Flat T)) → (j : ℕ) → ClaimsJoined eq cur at (take j now) new
      → (k : ℕ) × ClaimsJoined eq old first (take k items) new
  stretch_left decides now later split at is new j joined =
      let part = part_of now later j in
      let all : take (length s.done + part.0) items ≡ s.done ++ take j now =
      ap (take (length s.done + part.0)) (s.parts ∙ ap (λ (l : List T). s.done ++ l) split) ∙ take_past s.done (now ++ later) part.0 ∙ ap (λ (l : List T). s.done ++ l) part.1 in
      (length s.done + part.0, subst (λ (l : List T). ClaimsJoined eq old first l new) (sym all) (joined_more eq decides old cur new first at s.done (take j now) (is ∙ s.place_is) s.joined joined))
