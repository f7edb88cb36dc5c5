-- Counterparts, one by one.
use Rattle.std.proofs.Common.{◌≡◌, ℕ, ◌+◌, ◌<◌, List, [], ◌∷◌, ◌++◌, take, get_or, length, refl, sym, ap, ◌∙◌, subst}
use Rattle.std.proofs.lemmas.List.{take_more}
use Rattle.adapter.specs.Breakpoints.{Pairs}

pairs_behind : {X Y : Type 0} (P : X → Y → Type 0) (xs : List X) (ys : List Y) (x : X) (y : Y) → Pairs P xs ys → P x y → Pairs P (xs ++ x ∷ []) (ys ++ y ∷ [])
pairs_behind P [] ys x y h p = (y, [], p, refl, ap (λ zs. zs ++ y ∷ []) h)
pairs_behind P (x0 ∷ xs) ys x y h p = (h.0, h.1 ++ y ∷ [], h.2, pairs_behind P xs h.1 x y h.3 p, ap (λ zs. zs ++ y ∷ []) h.4)

pub pairs_more : {X Y : Type 0} (P : X → Y → Type 0) (xs : List X) (k : ℕ) (ys : List Y) (x : X) (y : Y) → k < length xs → x ≡ get_or xs k x → Pairs P (take k xs) ys → P x y → Pairs P (take (k + 1) xs) (ys ++ y ∷ [])
pairs_more P xs k ys x y below is h p =
    subst (λ zs. Pairs P zs (ys ++ y ∷ [])) (sym (take_more xs k x below ∙ ap (λ z. take k xs ++ z ∷ []) (sym is))) (pairs_behind P (take k xs) ys x y h p)
