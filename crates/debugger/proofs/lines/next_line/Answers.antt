use Rattle.std.proofs.Common.{◌≡◌, ℕ, [], take, ap, ◌∙◌, refl}
use Rattle.debugger.proofs.Writing.{nothing_more}
use Rattle.debugger.proofs.lines.next_line.Goals as goal

pub returns-in-Err-clause-part : goal.returns-in-Err-clause-part
returns-in-Err-clause-part g c =
    let b = c.loop-kept.invariant.begun in
    (b.0, b.1, nothing_more g.R.Source.brings g.met.R.Source.brings_more c.args.source.now c.loop-kept.source c.read.new.self b.0 [] refl b.2 c.in-Err.ensures.nothing_brought)

pub returns-in-Ok-eq0-clause-last : goal.returns-in-Ok-eq0-clause-last
returns-in-Ok-eq0-clause-last g c line is =
    let b = c.loop-kept.invariant.begun in
    let none = ap (λ (n : ℕ). take n c.read.new.buffer) c.in-Ok-eq0.field-0-test in
    let same : line ≡ c.line.result = cc in (
      b.0,
      b.1,
      same ∙ c.line.ensures b.0 b.3,
      nothing_more g.R.Source.brings g.met.R.Source.brings_more c.args.source.now c.loop-kept.source c.read.new.self b.0 (take c.in-Ok-eq0.field-0 c.read.new.buffer) none b.2 c.in-Ok-eq0.ensures.brought,
      c.in-Ok-eq0.ensures.end c.in-Ok-eq0.field-0-test,
    )
