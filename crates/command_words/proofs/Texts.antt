-- Lists of texts that have the same texts.
use Rattle.std.proofs.Common.{◌≡◌, ◌&&◌, ℕ, Bool, List, map, sym, ap, ◌∙◌}
use Rattle.std.specs.Borrow.{Bor}
use Rattle.std.specs.List.{list_all}
use Rattle.std.proofs.lemmas.List.Folds.{list_all-map}
use Rattle.command_words.specs.Words.{may_begin}

pub same_begin : (xs ys : List (Bor (List ℕ))) → map (λ t. t.now) xs ≡ map (λ t. t.now) ys → list_all (λ t. may_begin t.now) xs ≡ list_all (λ t. may_begin t.now) ys
same_begin xs ys e = sym (list_all-map may_begin (λ (t : Bor (List ℕ)). t.now) xs) ∙ ap (list_all may_begin) e ∙ list_all-map may_begin (λ (t : Bor (List ℕ)). t.now) ys

pub both_same : (a b c d : Bool) → a ≡ c → b ≡ d → (a && b) ≡ (c && d)
both_same a b c d e f = ap (λ x. x && b) e ∙ ap (λ x. c && x) f
