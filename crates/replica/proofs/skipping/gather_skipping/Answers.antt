use Rattle.std.proofs.Common.{◌≡◌, List, ℕ, ◌++◌}
use Rattle.replica.proofs.FoundLemmas.{skips_found}
use Rattle.replica.proofs.skipping.gather_skipping.Goals as goal

pub returns-in-Ok-clause-sink_failed : goal.returns-in-Ok-clause-sink_failed
returns-in-Ok-clause-sink_failed g c is =
    let failed = c.in-Err-write_found.ensures.sink_failed (cc (is)) in (
      (
        c.in-Ok.kept.skipped,
        skips_found c.args.form (g.R.Source.brings c.args.source.now) (g.R.Source.ended c.collect_skipping.new.source) c.collect_skipping.new.source c.in-Ok.kept.skipped
            (λ listed. (part rest : List ℕ) × (listed ≡ part ++ rest) × g.W.Sink.takes c.args.sink.now part c.write_found.new.sink) c.in-Ok.kept.replica c.in-Ok.ensures.finds c.in-Err-write_found.ensures.ordered failed.0,
      ),
      failed.1,
    )
