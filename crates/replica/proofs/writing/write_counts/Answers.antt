-- The line of the counts, then those of the contradictions.
use Rattle.std.proofs.Common.{◌≡◌, ◌++◌}
use Rattle.std.specs.List.{flat_map}
use Rattle.std.proofs.lemmas.Result.{err_from_is_err_and, on_ok_weaker, on_err_weaker}
use Rattle.replica.specs.Listing.{counts_line}
use Rattle.replica.specs.Counts.{ends, missing, strays, clashes}
use Rattle.replica.specs.Contradictions.{contradiction_line}
use Rattle.replica.proofs.LinesWritten.{wrote_wrote, wrote_began, put_wrote, put_began, began_more}
use Rattle.replica.proofs.writing.write_counts.Goals as goal

pub returns-in_err-flush-clause-began : goal.returns-in_err-flush-clause-began
returns-in_err-flush-clause-began g c =
    let log = c.args.log.now in
    let put : c.put_counts.new.room ≡ c.args.room.now ++ counts_line (ends log) (missing log) (strays log) (clashes log) =
    rw (c.ends.ensures, c.counts-counts.ensures.missing, c.counts-counts.ensures.strays, c.counts-counts.ensures.clashes) at c.put_counts.ensures.text in
    rw (err_from_is_err_and c.from_residual.result c.from_residual.ensures.1).1
    (began_more (flat_map contradiction_line c.args.contradictions.now) (put_began put c.in_err-flush.ensures.began))

pub returns-clause-wrote : goal.returns-clause-wrote
returns-clause-wrote g c =
    let log = c.args.log.now in
    let put : c.put_counts.new.room ≡ c.args.room.now ++ counts_line (ends log) (missing log) (strays log) (clashes log) =
    rw (c.ends.ensures, c.counts-counts.ensures.missing, c.counts-counts.ensures.strays, c.counts-counts.ensures.clashes) at c.put_counts.ensures.text in
    on_ok_weaker c.write_contradictions.result (λ v. wrote_wrote g.met.W.Sink.takes_more (put_wrote put c.in_ok-flush.ensures.wrote) v) c.write_contradictions.ensures.wrote

pub returns-clause-began : goal.returns-clause-began
returns-clause-began g c =
    let log = c.args.log.now in
    let put : c.put_counts.new.room ≡ c.args.room.now ++ counts_line (ends log) (missing log) (strays log) (clashes log) =
    rw (c.ends.ensures, c.counts-counts.ensures.missing, c.counts-counts.ensures.strays, c.counts-counts.ensures.clashes) at c.put_counts.ensures.text in
    on_err_weaker c.write_contradictions.result (λ v. wrote_began g.met.W.Sink.takes_more (put_wrote put c.in_ok-flush.ensures.wrote) v) c.write_contradictions.ensures.began
