-- One function more.
use Rattle.std.proofs.Common.{◌≡◌, ℕ, suc, ◌+◌, ◌<◌, List, ◌∷◌, ◌++◌, length, drop, Some, slice_get, sym, ap, ◌∙◌, append_assoc, add-one}
use Rattle.std.proofs.Math.Seq.{drop-cons}
use Rattle.std.proofs.lemmas.Option.{slice_get_within, get_or_from_slice_get}
use Rattle.integer_machine.specs.declared.standing.CodePlace.{CodePlace}
use Rattle.debug_views.specs.Standing.{PlaceForm, frame_text, frames_text}

-- what is left from a place on begins with the element there
drop_at : {B : Type 0} (xs : List B) (n : ℕ) (b : B) → slice_get xs n ≡ Some b → drop n xs ≡ b ∷ drop (n + 1) xs
drop_at {B} xs n b there =
    let below : n < length xs = slice_get_within xs n b there in
    drop-cons xs n b below
    ∙ ap (λ (x : B). x ∷ drop (suc n) xs) (get_or_from_slice_get xs n b b there)
    ∙ ap (λ (k : ℕ). b ∷ drop k xs) (sym (add-one n))

pub frame_more : (form : PlaceForm) (ps : List CodePlace) (now next : List ℕ) (n : ℕ) (p : CodePlace) → slice_get ps n ≡ Some p → next ≡ now ++ frame_text form n p
    → next ++ frames_text form (n + 1) (drop (n + 1) ps) ≡ now ++ frames_text form n (drop n ps)
frame_more form ps now next n p there more =
    ap (λ (l : List ℕ). l ++ frames_text form (n + 1) (drop (n + 1) ps)) more
    ∙ append_assoc now (frame_text form n p) (frames_text form (n + 1) (drop (n + 1) ps))
    ∙ ap (λ (qs : List CodePlace). now ++ frames_text form n qs) (sym (drop_at ps n p there))
