use Rattle.std.proofs.Common.{ℕ, ◌+◌, List, [], ◌∷◌, ◌++◌, refl, ap, ◌∙◌, subst, Ok}
use Rattle.adapter_messages.proofs.Coming.{nothing_more, no_end_more, none_of, some_of, one_longer}
use Rattle.adapter_messages.proofs.header_line.next_line.Goals as goal

pub returns-in-Err : goal.returns-in-Err
returns-in-Err g c =
    let i = c.loop-kept.invariant in
    let came = nothing_more g.R.Source.brings g.met.R.Source.brings_more c.args.source.now c.loop-kept.source c.next_byte.new.source c.loop-kept.kept.items [] refl i.came c.in-Err.ensures.nothing_brought in
    (c.loop-kept.kept.items, record { has_no_end = i.has_no_end; came = came }, c.in-Err.ensures.one_failed ∙ ap (λ n. n + 1) i.same)

pub returns-in-Ok-None : goal.returns-in-Ok-None
returns-in-Ok-None g c =
    let i = c.loop-kept.invariant in
    let h = c.in-Ok-None in
    let came = nothing_more g.R.Source.brings g.met.R.Source.brings_more c.args.source.now c.loop-kept.source c.next_byte.new.source c.loop-kept.kept.items [] refl i.came (h.ensures.nothing (ap Ok h.field-0-is)) in
    (subst (λ (t : List ℕ). g.R.Source.brings c.args.source.now t c.next_byte.new.source) (none_of c.loop-kept.kept.items c.if-is_empty.ensures) came, h.ensures.end (ap Ok h.field-0-is), h.ensures.none_failed ∙ i.same)

pub returns-in-Ok-None-2 : goal.returns-in-Ok-None-2
returns-in-Ok-None-2 g c =
    let i = c.loop-kept.invariant in
    let h = c.in-Ok-None in
    let came = nothing_more g.R.Source.brings g.met.R.Source.brings_more c.args.source.now c.loop-kept.source c.next_byte.new.source c.loop-kept.kept.items [] refl i.came (h.ensures.nothing (ap Ok h.field-0-is)) in
    (c.loop-kept.kept.items, record { has_no_end = i.has_no_end; came = came }, some_of c.loop-kept.kept.items (c.if-is_empty.ensures), h.ensures.end (ap Ok h.field-0-is), h.ensures.none_failed ∙ i.same)

pub returns-in-Ok-Some : goal.returns-in-Ok-Some
returns-in-Ok-Some g c =
    let i = c.loop-kept.invariant in
    let h = c.in-Ok-Some in
    let b = h.field-0-0 in
    let came = g.met.R.Source.brings_more c.args.source.now c.loop-kept.source c.next_byte.new.source c.loop-kept.kept.items (b ∷ []) i.came (h.ensures.byte b (ap Ok h.field-0-is)) in
    let test = h.field-0-0-test in
    (c.loop-kept.kept.items ++ b ∷ [], record { has_no_end = no_end_more c.loop-kept.kept.items b i.has_no_end test.1; came = came }, one_longer c.loop-kept.kept.items b c.if-is_full.ensures.value, h.ensures.none_failed ∙ i.same)
