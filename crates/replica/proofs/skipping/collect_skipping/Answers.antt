use Rattle.std.proofs.Common.{◌∙◌}
use Rattle.std.specs.Result.{result_ok}
use Rattle.replica.proofs.JudgedLemmas.{found_line, found_last, found_end}
use Rattle.replica.proofs.skipping.collect_skipping.Goals as goal

pub loop-fault-preserved-in_ok-put-in-Ok-Line : goal.loop-fault-preserved-in_ok-put-in-Ok-Line
loop-fault-preserved-in_ok-put-in-Ok-Line g c =
    let w = c.in-Ok-Line.ensures.line c.in-Ok-Line.judged (cc (c.in-Ok-Line.field-0-is)) in
    record {
      so_far = found_line (g.R.Source.brings c.args.source.now) g.R.Source.brings (λ s t got more h k. g.met.R.Source.brings_more c.args.source.now s t got more h k) c.loop-fault.source c.loop-fault.chunk c.loop-fault.kept.replica c.loop-fault.kept.skipped c.loop-fault.invariant.so_far c.next_whole.new.source w.0 w.2 w.1 (result_ok c.in-Ok-Line.judged) c.put.new.self.replica c.put.new.self.skipped w.3 w.5 c.in_ok-put-in-Ok-Line.ensures c.next_whole.new.chunk w.4;
      same = c.in-Ok-Line.ensures.none_failed (λ h. absurd cc) ∙ c.loop-fault.invariant.same;
    }

pub loop-fault-preserved : goal.loop-fault-preserved
loop-fault-preserved g c =
    let w = c.in-Ok-Line.ensures.line c.in-Ok-Line.judged (cc (c.in-Ok-Line.field-0-is)) in
    record {
      so_far = found_line (g.R.Source.brings c.args.source.now) g.R.Source.brings (λ s t got more h k. g.met.R.Source.brings_more c.args.source.now s t got more h k) c.loop-fault.source c.loop-fault.chunk c.loop-fault.kept.replica c.loop-fault.kept.skipped c.loop-fault.invariant.so_far c.next_whole.new.source w.0 w.2 w.1 (result_ok c.in-Ok-Line.judged) c.put.new.self.replica c.put.new.self.skipped w.3 w.5 c.in_ok-put-in-Ok-Line.ensures c.next_whole.new.chunk w.4;
      same = c.in-Ok-Line.ensures.none_failed (λ h. absurd cc) ∙ c.loop-fault.invariant.same;
    }

pub returns-in-Ok-Last-clause-finds : goal.returns-in-Ok-Last-clause-finds
returns-in-Ok-Last-clause-finds g c =
    let w = c.in-Ok-Last.ensures.last c.in-Ok-Last.judged (cc (c.in-Ok-Last.field-0-is)) in
    found_last (g.R.Source.brings c.args.source.now) g.R.Source.brings (λ s t got more h k. g.met.R.Source.brings_more c.args.source.now s t got more h k) c.loop-fault.source c.loop-fault.chunk c.loop-fault.kept.replica c.loop-fault.kept.skipped c.loop-fault.invariant.so_far c.next_whole.new.source w.0 w.2 w.1 (result_ok c.in-Ok-Last.judged) c.put-in-Ok-Last.new.self.replica c.put-in-Ok-Last.new.self.skipped w.4 w.7 c.in_ok-put-in-Ok-Last.ensures (g.R.Source.ended c.next_whole.new.source) w.3 w.5 w.6

pub returns-in-Ok-End-clause-finds : goal.returns-in-Ok-End-clause-finds
returns-in-Ok-End-clause-finds g c =
    let w = c.in-Ok-End.ensures.end (cc (c.in-Ok-End.field-0-is)) in
    found_end (g.R.Source.brings c.args.source.now) g.R.Source.brings (λ s t got more h k. g.met.R.Source.brings_more c.args.source.now s t got more h k) c.loop-fault.source c.loop-fault.chunk c.loop-fault.kept.replica c.loop-fault.kept.skipped c.loop-fault.invariant.so_far c.next_whole.new.source w.0 w.1 (g.R.Source.ended c.next_whole.new.source) w.2 w.3
