-- The ranges that texts write, one text after the other.
use Rattle.std.proofs.Common.{◌≡◌, ◌<◌, ◌≤◌, ℕ, ◌+◌, List, [], ◌∷◌, ◌++◌, length, map, drop, get_or, ap, sym, ◌∙◌}
use Rattle.std.specs.Prelude.{Option, Some, None}
use Rattle.std.specs.Borrow.{Bor}
use Rattle.std.proofs.lemmas.List.{drop_more, drop_all}
use Rattle.command_words.specs.Words.{pair_in, in_front}
use Rattle.command_words.specs.Asked.{ranges_of}
use Rattle.command_words.proofs.Digits.{behind, behind_one_more, behind_none, behind_nothing, front_none}

abbrev left : List (Bor (List ℕ)) → ℕ → Option (List (ℕ × ℕ))
left texts i = ranges_of (map (λ t. t.now) (drop i texts))

next : (texts : List (Bor (List ℕ))) (i : ℕ) (d : Bor (List ℕ)) → i < length texts → left texts i ≡ in_front (pair_in 43 (get_or texts i d).now) (left texts (i + 1))
next texts i d lt = ap (λ ts. ranges_of (map (λ t. t.now) ts)) (drop_more texts i d lt)

pub range_more : (texts : List (Bor (List ℕ))) (ranges : List (ℕ × ℕ)) (range : ℕ × ℕ) (all : Option (List (ℕ × ℕ))) (i : ℕ) (d : Bor (List ℕ))
    → behind ranges (left texts i) ≡ all → i < length texts → pair_in 43 (get_or texts i d).now ≡ Some range → behind (ranges ++ range ∷ []) (left texts (i + 1)) ≡ all
range_more texts ranges range all i d same lt some =
    behind_one_more ranges range (left texts (i + 1)) ∙ ap (λ r. behind ranges (in_front r (left texts (i + 1)))) (sym some) ∙ ap (behind ranges) (sym (next texts i d lt)) ∙ same

pub range_none : (texts : List (Bor (List ℕ))) (ranges : List (ℕ × ℕ)) (all : Option (List (ℕ × ℕ))) (i : ℕ) (d : Bor (List ℕ))
    → behind ranges (left texts i) ≡ all → i < length texts → pair_in 43 (get_or texts i d).now ≡ None → None ≡ all
range_none texts ranges all i d same lt none =
    sym (behind_none ranges) ∙ ap (behind ranges) (sym (front_none (left texts (i + 1)))) ∙ ap (λ r. behind ranges (in_front r (left texts (i + 1)))) (sym none) ∙ ap (behind ranges) (sym (next texts i d lt)) ∙ same

pub ranges_done : (texts : List (Bor (List ℕ))) (ranges : List (ℕ × ℕ)) (all : Option (List (ℕ × ℕ))) (i : ℕ) → behind ranges (left texts i) ≡ all → length texts ≤ i → Some ranges ≡ all
ranges_done texts ranges all i same le = sym (behind_nothing ranges) ∙ ap (λ ts. behind ranges (ranges_of (map (λ t. t.now) ts))) (sym (drop_all i texts le)) ∙ same
