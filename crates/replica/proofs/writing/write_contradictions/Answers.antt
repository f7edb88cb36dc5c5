-- The line of one contradiction more.
use Rattle.std.proofs.Common.{◌+◌, None, drop, get_or, ◌∙◌}
use Rattle.std.specs.List.{flat_map}
use Rattle.std.proofs.lemmas.Result.{err_from_is_err_and}
use Rattle.replica.specs.declared.diverging.Diverging.TheVariants.{Clash}
use Rattle.replica.specs.Contradictions.{contradiction_line}
use Rattle.replica.proofs.LinesWritten.{lines_more, lines_began, each_split}
use Rattle.replica.proofs.writing.write_contradictions.Goals as goal

pub returns-in_err-flush-clause-began : goal.returns-in_err-flush-clause-began
returns-in_err-flush-clause-began g c =
    let i = c.loop-contradiction.contradiction-index in
    let all = c.args.contradictions.now in
    let split = each_split contradiction_line i all (Clash 0 None) c.loop-contradiction-test.true in
    rw (err_from_is_err_and c.from_residual.result c.from_residual.ensures.1).1
    (lines_began g.met.W.Sink.takes_more (contradiction_line (get_or all i (Clash 0 None))) (flat_map contradiction_line (drop (i + 1) all)) c.loop-contradiction.invariant.lines split c.put_contradiction.ensures.text c.in_err-flush.ensures.began)

pub loop-contradiction-preserved : goal.loop-contradiction-preserved
loop-contradiction-preserved g c =
    let i = c.loop-contradiction.contradiction-index in
    let all = c.args.contradictions.now in
    let split = each_split contradiction_line i all (Clash 0 None) c.loop-contradiction-test.true in
    record {
      lines = lines_more g.met.W.Sink.takes_more (contradiction_line (get_or all i (Clash 0 None))) (flat_map contradiction_line (drop (i + 1) all)) c.loop-contradiction.invariant.lines split c.put_contradiction.ensures.text c.in_ok-flush.ensures.wrote;
      room = c.in_ok-flush.ensures.room;
      same = c.in_ok-flush.ensures.none_failed ∙ c.loop-contradiction.invariant.same;
    }
