use Rattle.std.proofs.Common.{ℕ, ◌+◌, [], ◌++◌, take, refl, sym, ap, ◌∙◌, arith, add-zero, length-append}
use Rattle.std.proofs.lemmas.List.{length-take}
use Rattle.adapter_messages.proofs.Coming.{nothing_more}
use Rattle.adapter_messages.proofs.content.read_content.Goals as goal

pub returns-in-Err : goal.returns-in-Err
returns-in-Err g c =
    let i = c.loop-chunk.invariant in
    let came = nothing_more g.R.Source.brings g.met.R.Source.brings_more c.args.source.now c.loop-chunk.source c.read.new.self c.loop-chunk.content.items [] refl i.came c.in-Err.ensures.nothing_brought in
    (record { part = c.loop-chunk.content.items; came = came; leaves_off = omega arith }, c.in-Err.ensures.one_failed ∙ ap (λ (n : ℕ). n + 1) i.same)

pub returns-in-Ok-eq0 : goal.returns-in-Ok-eq0
returns-in-Ok-eq0 g c =
    let i = c.loop-chunk.invariant in
    let h = c.in-Ok-eq0 in
    let none = ap (λ (n : ℕ). take n c.read.new.buffer) h.field-0-test in
    let came = nothing_more g.R.Source.brings g.met.R.Source.brings_more c.args.source.now c.loop-chunk.source c.read.new.self c.loop-chunk.content.items (take h.field-0 c.read.new.buffer) none i.came h.ensures.brought in
    (record { part = c.loop-chunk.content.items; came = came; leaves_off = (omega arith, h.ensures.end h.field-0-test) }, h.ensures.none_failed ∙ i.same ∙ sym (add-zero (g.R.Source.failed c.args.source.now)))

pub returns-then-is_err : goal.returns-then-is_err
returns-then-is_err g c =
    let i = c.loop-chunk.invariant in
    let h = c.in-Ok in
    let came = g.met.R.Source.brings_more c.args.source.now c.loop-chunk.source c.read.new.self c.loop-chunk.content.items (take h.count c.read.new.buffer) i.came h.ensures.brought in
    (record { part = c.loop-chunk.content.items ++ take h.count c.read.new.buffer; came = came; leaves_off = omega (arith, length-append c.loop-chunk.content.items (take h.count c.read.new.buffer), length-take h.count c.read.new.buffer, h.ensures.within) }, h.ensures.none_failed ∙ i.same ∙ sym (add-zero (g.R.Source.failed c.args.source.now)))
