-- The form of a thread line.
use Rattle.std.proofs.Common.{◌≡◌, ℕ, Bool, true, false, List, ◌∷◌, refl, ap, ◌∙◌}
use Rattle.std.specs.Prelude.{Some, None, codes, ◌&&◌}
use Rattle.std.specs.List.{list_all}
use Rattle.std.specs.Str.{IsUtf8, is_utf8, bytes_eq}
use Rattle.std.proofs.lemmas.Bool.{false_from_ne_true, cond-true, cond-false}
use Rattle.std.proofs.lemmas.Str.{IsUtf8-from_is_utf8, is_utf8-from_IsUtf8}
use Rattle.text_lines.specs.Integers.{is_decimal}
use Rattle.thread_plan.specs.Threads.{form_of}

fails : (a b c : Bool) → b ≡ false → (a && (b && c)) ≡ false
fails true b c e = ap (λ b. b && c) e
fails false b c e = refl

pub form_not_utf8 : (words rest : List (List ℕ)) (word name : List ℕ) → words ≡ word ∷ name ∷ rest → (IsUtf8 name → ⊥) → form_of words ≡ None
form_not_utf8 words rest word name e none =
    let no : is_utf8 name ≡ false = false_from_ne_true _ (λ t. none (IsUtf8-from_is_utf8 name t)) in
    ap form_of e ∙ cond-false _ _ _ (fails (bytes_eq word (codes "thread")) (is_utf8 name) (list_all is_decimal rest) no)

pub form_is : (words rest : List (List ℕ)) (word name : List ℕ) → words ≡ word ∷ name ∷ rest → bytes_eq word (codes "thread") ≡ true → IsUtf8 name → list_all is_decimal rest ≡ true
    → form_of words ≡ Some (name, rest)
form_is words rest word name e first text integers =
    let yes : is_utf8 name ≡ true = is_utf8-from_IsUtf8 name text in
    ap form_of e ∙ cond-true _ _ _ (ap (λ b. b && (is_utf8 name && list_all is_decimal rest)) first ∙ ap (λ b. b && list_all is_decimal rest) yes ∙ integers)
