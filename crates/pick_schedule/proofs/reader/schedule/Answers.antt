use Rattle.std.proofs.Common.{◌≡◌, ℕ, List, length, subst, sym, arith}
use Rattle.std.specs.Prelude.{replicate}
use Rattle.std.proofs.lemmas.List.{length-replicate}
use Rattle.event_core.specs.declared.pick.Pick.{Pick}
use Rattle.text_lines.specs.Parts.{parts_left}
use Rattle.pick_schedule.proofs.Lines.{IsReadUpTo, one_more}
use Rattle.pick_schedule.proofs.reader.schedule.Goals as goal

pub loop-line-preserved : goal.loop-line-preserved
loop-line-preserved c =
    let stretch : List Pick = replicate c.in-Ok.stretch.times c.in-Ok.stretch.pick in
    let many : length stretch ≡ c.in-Ok.stretch.times = length-replicate c.in-Ok.stretch.times c.in-Ok.stretch.pick in
    rw c.in_ok-push.ensures.ok (one_more c.args.text.now c.loop-line.picks stretch c.loop-line.number c.in-Some.line.now (parts_left c.take_part.new.self)
    (subst (λ (ls : List (List ℕ)). IsReadUpTo c.args.text.now c.loop-line.picks c.loop-line.number ls) c.in-Some.ensures c.loop-line.invariant)
    (sym c.in-Ok.ensures.picks) (omega (arith, many, c.in-Ok.ensures.some)) (omega (arith, many)))
