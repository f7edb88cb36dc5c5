use Rattle.replica.proofs.judging.next_judged.Goals as goal

pub returns-in-Ok-judge_last-clause-last : goal.returns-in-Ok-judge_last-clause-last
returns-in-Ok-judge_last-clause-last g c judged is =
    let w = c.in-Ok-Last.ensures.last (cc (c.in-Ok-Last.field-0-is)) in
    let l = c.in-Ok-judge_last.ensures.last judged (cc (is)) in
    (w.0, c.next_line.new.line.items, w.1, w.2, w.3, l.0, w.4, l.1)
