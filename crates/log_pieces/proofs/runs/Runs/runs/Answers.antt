use Rattle.std.proofs.Common.{◌≡◌, rules, arith}
use Rattle.log_pieces.proofs.Neighbours.{begun_start, begun_yes, begun_no, begun_end}
use Rattle.log_pieces.proofs.runs.Runs.runs.Goals as goal
use Rattle.log_pieces.proofs.runs.Runs.runs.Goals.{then-from-next, else-from-next}

pub loop-place-init : goal.loop-place-init
loop-place-init g c =
    let start : c.into_iter-place-iterator.result ≡ c.args.self.now = search rules in
    rw start (begun_start c.args.self.now c.iter-place-items.ensures.ordered)

pub loop-place-preserved-after-from-next : goal.loop-place-preserved-after-from-next
loop-place-preserved-after-from-next g c =
    let place : c.from.result ≡ c.in-Some.place = c.from.ensures in
    let small = c.behind-next.ensures.bound in
    let next = c.behind-next.ensures.value in
    rw next (elim c.if-from-next.branch [
      | then-from-next w ↦ rw w.count-is (begun_yes c.loop-place.invariant (c.in-Some.place, c.in-Some.field-0-1) c.next.new.self c.in-Some.ensures.steps (omega arith) (λ same. let apart = w.if-from-next.true in omega arith))
      | else-from-next w ↦ rw w.count-is (begun_no c.loop-place.invariant (c.in-Some.place, c.in-Some.field-0-1) c.next.new.self c.in-Some.ensures.steps (omega arith) (let same = w.if-from-next.false in omega arith))
    ])

pub loop-place-preserved : goal.loop-place-preserved
loop-place-preserved g c =
    let place : c.from.result ≡ c.in-Some.place = c.from.ensures in
    let small = c.behind-next.ensures.bound in
    let next = c.behind-next.ensures.value in
    rw next (elim c.if-from-next.branch [
      | then-from-next w ↦ rw w.count-is (begun_yes c.loop-place.invariant (c.in-Some.place, c.in-Some.field-0-1) c.next.new.self c.in-Some.ensures.steps (omega arith) (λ same. let apart = w.if-from-next.true in omega arith))
      | else-from-next w ↦ rw w.count-is (begun_no c.loop-place.invariant (c.in-Some.place, c.in-Some.field-0-1) c.next.new.self c.in-Some.ensures.steps (omega arith) (let same = w.if-from-next.false in omega arith))
    ])

pub returns : goal.returns
returns g c = begun_end c.loop-place.invariant c.in-None.ensures.steps.0
