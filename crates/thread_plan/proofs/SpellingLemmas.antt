-- Thread lines and their words.
use Rattle.std.proofs.Common.{◌≡◌, ◌≢◌, ℕ, true, false, List, [], ◌∷◌, ◌++◌, refl, sym, ap, subst, ◌∙◌}
use Rattle.std.specs.Prelude.{Some, codes, ◌==◌, ◌&&◌}
use Rattle.std.specs.List.{list_all, join_with_byte}
use Rattle.std.specs.Cmp.{second_so, first_so}
use Rattle.std.specs.Str.{is_utf8, bytes_eq}
use Rattle.std.proofs.lemmas.Bool.{ne_eqb}
use Rattle.std.proofs.lemmas.List.Elements.{All-from_get_or, All-get_or}
use Rattle.std.proofs.lemmas.List.Splits.{join_with_byte-slice_split}
use Rattle.std.proofs.lemmas.Option.{cond_some}
use Rattle.std.proofs.lemmas.Slice.Eq.{bytes_eq-Decides}
use Rattle.std.proofs.lemmas.Str.{IsUtf8-from_is_utf8}
use Rattle.text_lines.specs.Parts.{words}
use Rattle.text_lines.specs.Integers.{is_decimal}
use Rattle.thread_plan.specs.Threads.{form_of}
use Rattle.thread_plan.specs.Spelling.{IsThreadLine}
use Rattle.text_lines.proofs.SplitLemmas.{Without, AllWithout, parts_without, differ, joined, split_joined, integers_spaceless}
use Rattle.thread_plan.proofs.LineLemmas.{form_is}

parts_of_form : (ws : List (List ℕ)) (name : List ℕ) (arguments : List (List ℕ)) → form_of ws ≡ Some (name, arguments)
    → (ws ≡ codes "thread" ∷ name ∷ arguments) × (is_utf8 name ≡ true) × (list_all is_decimal arguments ≡ true)
parts_of_form [] name arguments e = absurd cc
parts_of_form (w ∷ []) name arguments e = absurd cc
parts_of_form (w ∷ n ∷ others) name arguments e =
    let p = cond_some (bytes_eq w (codes "thread") && (is_utf8 n && list_all is_decimal others)) (n, others) (name, arguments) e in
    let word : w ≡ codes "thread" = (bytes_eq-Decides w (codes "thread")).0 (first_so _ _ p.0) in
    let rest : (is_utf8 n && list_all is_decimal others) ≡ true = second_so _ _ p.0 in
    let named : n ≡ name = ap (λ q. q.0) p.1 in
    let given : others ≡ arguments = ap (λ q. q.1) p.1 in (
      ap (λ x. x ∷ n ∷ others) word ∙ ap (λ x. codes "thread" ∷ x ∷ others) named ∙ ap (λ x. codes "thread" ∷ name ∷ x) given,
      sym (ap is_utf8 named) ∙ first_so _ _ rest,
      sym (ap (list_all is_decimal) given) ∙ second_so _ _ rest,
    )

pub form_is_spelled : (line name : List ℕ) (arguments : List (List ℕ)) → form_of (words line) ≡ Some (name, arguments) → IsThreadLine line name arguments
form_is_spelled line name arguments e =
    let p = parts_of_form (words line) name arguments e in
    let s : AllWithout 32 (codes "thread" ∷ name ∷ arguments) = subst (λ (ws : List (List ℕ)). AllWithout 32 ws) p.0 (parts_without 32 line) in
    record {
      spelled = sym (join_with_byte-slice_split 32 line) ∙ ap (join_with_byte 32) p.0 ∙ ap (λ l. codes "thread " ++ l) (joined name arguments);
      one_word = differ 32 name s.1.0;
      is_text = IsUtf8-from_is_utf8 name p.1;
      integers = p.2;
    }

pub spelled_has_form : (line name : List ℕ) (arguments : List (List ℕ)) → IsThreadLine line name arguments → form_of (words line) ≡ Some (name, arguments)
spelled_has_form line name arguments t =
    let thread : Without 32 (codes "thread") = (parts_without 32 (codes "thread")).0 in
    let named : Without 32 name = All-from_get_or (λ b. (b == 32) ≡ false) name 0 (λ k lt. ne_eqb _ _ (All-get_or (λ b. b ≢ 32) name k 0 lt t.one_word)) in
    form_is (words line) arguments (codes "thread") name
    (ap words t.spelled ∙ split_joined (codes "thread") (name ∷ arguments) thread (named, integers_spaceless arguments t.integers)) refl t.is_text t.integers
