use Rattle.std.proofs.Common.{◌≡◌, true, ◌∷◌, sym, ap, ◌∙◌}
use Rattle.std.specs.Prelude.{codes}
use Rattle.std.specs.Str.{bytes_eq}
use Rattle.std.proofs.lemmas.Bool.{not-false}
use Rattle.text_lines.specs.Parts.{words, parts_left}
use Rattle.thread_plan.proofs.LineLemmas.{form_not_utf8, form_is}
use Rattle.thread_plan.proofs.thread_line.form.Goals as goal

pub returns-in_default-from_utf8-clause-form : goal.returns-in_default-from_utf8-clause-form
returns-in_default-from_utf8-clause-form c =
    let e : words c.args.line.now ≡ c.in-Some.word.now ∷ c.in-Some-take_part.name.now ∷ parts_left c.take_part-2.new.self = sym c.new-parts.ensures ∙ c.in-Some.ensures ∙ ap (λ l. c.in-Some.word.now ∷ l) c.in-Some-take_part.ensures in
    form_not_utf8 _ _ _ _ e c.in_default-from_utf8.ensures.cases.0

pub returns-in-None-clause-form : goal.returns-in-None-clause-form
returns-in-None-clause-form c =
    let e : words c.args.line.now ≡ c.in-Some.word.now ∷ c.in-Some-take_part.name.now ∷ parts_left c.take_part-2.new.self = sym c.new-parts.ensures ∙ c.in-Some.ensures ∙ ap (λ l. c.in-Some.word.now ∷ l) c.in-Some-take_part.ensures in
    let first : bytes_eq c.in-Some.word.now (codes "thread") ≡ true = not-false _ (sym c.if-ne.ensures) in
    rw c.in-Ok.ensures.cases.0 (form_is _ _ _ _ e first c.in-Ok.ensures.cases.1 (sym c.in-None.ensures))
