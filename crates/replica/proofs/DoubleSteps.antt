-- One write of a loop that adds double writes.
use Rattle.std.proofs.Common.{◌≡◌, ℕ, ◌+◌, ◌<◌, List, [], ◌∷◌, ◌++◌, Option, sym, ap, ◌∙◌, append_assoc, take, drop, get_or, length}
use Rattle.std.proofs.lemmas.List.{drop_more, take_more}
use Rattle.replica.specs.declared.diverging.Diverging.{Diverging}
use Rattle.replica.specs.declared.diverging.EventAt.{EventAt}
use Rattle.replica.specs.declared.writes.WriteAt.{WriteAt}
use Rattle.replica.specs.Divergence.{double_of, doubles, first_of}

pub double_more : (made now all : List Diverging) (xs : List WriteAt) (i : ℕ) (d : WriteAt) (first : Option EventAt) → i < length xs
    → first_of (take i xs) (get_or xs i d).written ≡ first
    → now ≡ made ++ double_of (get_or xs i d) first
    → made ++ doubles (take i xs) (drop i xs) ≡ all
    → now ++ doubles (take (i + 1) xs) (drop (i + 1) xs) ≡ all
double_more made now all xs i d first lt found is h =
    let x = get_or xs i d in
    let earlier = take i xs in
    let later = drop (i + 1) xs in
    let added : now ≡ made ++ double_of x (first_of earlier x.written) = is ∙ ap (λ (o : Option EventAt). made ++ double_of x o) (sym found) in
    ap (λ (l : List Diverging). l ++ doubles (take (i + 1) xs) later) added
    ∙ ap (λ (l : List WriteAt). (made ++ double_of x (first_of earlier x.written)) ++ doubles l later) (take_more xs i d lt)
    ∙ append_assoc made (double_of x (first_of earlier x.written)) (doubles (earlier ++ x ∷ []) later)
    ∙ ap (λ (l : List WriteAt). made ++ doubles earlier l) (sym (drop_more xs i d lt))
    ∙ h
