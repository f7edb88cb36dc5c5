use Rattle.std.proofs.Common.{◌≡◌, ◌+◌, ap, sym, subst, ◌∙◌}
use Rattle.wasm_types.specs.declared.key.RunKey.{RunKey}
use Rattle.replica.specs.declared.replica.Replica.{Replica}
use Rattle.replica.specs.Log.{log_of}
use Rattle.replica.specs.Gathered.{Collects, Refuses, IsOtherRun}
use Rattle.replica.proofs.CollectLemmas.{first_bad, first_cut, all_gathered, all_bad, all_other, all_cut}
use Rattle.replica.proofs.gathering.collect.Goals as goal

pub returns-in-Err-clause-bad_line : goal.returns-in-Err-clause-bad_line
returns-in-Err-clause-bad_line g c n reason is =
    let bad = c.in-Err.ensures.bad n reason (cc (is)) in
    (bad.1, bad.2, first_bad (g.R.Source.ended c.next_piece.new.source) c.in_ok-chunk.chunk bad.1 n c.in_ok-chunk.ensures bad.0 bad.3)

pub returns-in-Err-clause-source_failed : goal.returns-in-Err-clause-source_failed
returns-in-Err-clause-source_failed g c is =
    let failed = c.in-Err.ensures.source_failed (cc (is)) in
    ((failed.0.0, failed.0.1, first_cut c.in_ok-chunk.chunk failed.0.0 c.in_ok-chunk.ensures failed.0.2), failed.1)

pub returns-in-Ok-collect_rest-clause-gathered : goal.returns-in-Ok-collect_rest-clause-gathered
returns-in-Ok-collect_rest-clause-gathered g c replica is =
    let next = c.in-Ok-Piece.ensures.piece c.in-Ok-Piece.piece (cc (c.in-Ok-Piece.field-0-is)) in
    let same : c.collect_rest.new.replica ≡ replica = cc (is) in
    subst (λ (r : Replica). Collects (g.R.Source.brings c.args.source.now) (g.R.Source.ended c.collect_rest.new.source) c.collect_rest.new.source (log_of r)) same
    (all_gathered (g.R.Source.brings c.args.source.now) g.R.Source.brings (λ s t got more h k. g.met.R.Source.brings_more c.args.source.now s t got more h k) c.in_ok-chunk.chunk next.0 next.1 c.next_piece.new.chunk c.in-Ok-Piece.piece c.next_piece.new.source c.collect_rest.new.source c.in_ok-chunk.ensures next.2 next.3 next.4 (g.R.Source.ended c.collect_rest.new.source) c.in-Ok-replica_of.replica.log c.collect_rest.new.replica.log c.in-Ok-replica_of.ensures.key c.in-Ok-replica_of.ensures.log c.in-Ok-collect_rest.ensures.gathered)

pub returns-in-Ok-replica_of-clause-bad_line : goal.returns-in-Ok-replica_of-clause-bad_line
returns-in-Ok-replica_of-clause-bad_line g c n reason is =
    let next = c.in-Ok-Piece.ensures.piece c.in-Ok-Piece.piece (cc (c.in-Ok-Piece.field-0-is)) in
    all_bad (g.R.Source.brings c.args.source.now) g.R.Source.brings (λ s t got more h k. g.met.R.Source.brings_more c.args.source.now s t got more h k) c.in_ok-chunk.chunk next.0 next.1 c.next_piece.new.chunk c.in-Ok-Piece.piece c.next_piece.new.source c.collect_rest.new.source c.in_ok-chunk.ensures next.2 next.3 next.4 (g.R.Source.ended c.collect_rest.new.source) c.in-Ok-replica_of.replica.log.key n c.in-Ok-replica_of.ensures.key (c.in-Err-collect_rest.ensures.bad n reason (cc (is)))

pub returns-in-Ok-replica_of-clause-other_run : goal.returns-in-Ok-replica_of-clause-other_run
returns-in-Ok-replica_of-clause-other_run g c n own first is =
    let other = c.in-Err-collect_rest.ensures.other n own first (cc (is)) in
    let next = c.in-Ok-Piece.ensures.piece c.in-Ok-Piece.piece (cc (c.in-Ok-Piece.field-0-is)) in
    subst (λ (key : RunKey). Refuses (g.R.Source.brings c.args.source.now) c.collect_rest.new.source (λ text. IsOtherRun text n own key)) (sym other.0)
    (all_other (g.R.Source.brings c.args.source.now) g.R.Source.brings (λ s t got more h k. g.met.R.Source.brings_more c.args.source.now s t got more h k) c.in_ok-chunk.chunk next.0 next.1 c.next_piece.new.chunk c.in-Ok-Piece.piece c.next_piece.new.source c.collect_rest.new.source c.in_ok-chunk.ensures next.2 next.3 next.4 c.in-Ok-replica_of.replica.log.key n own c.in-Ok-replica_of.ensures.key other.1)

pub returns-in-Ok-replica_of-clause-source_failed : goal.returns-in-Ok-replica_of-clause-source_failed
returns-in-Ok-replica_of-clause-source_failed g c is =
    let next = c.in-Ok-Piece.ensures.piece c.in-Ok-Piece.piece (cc (c.in-Ok-Piece.field-0-is)) in
    let failed = c.in-Err-collect_rest.ensures.source_failed (cc (is)) in
    (all_cut (g.R.Source.brings c.args.source.now) g.R.Source.brings (λ s t got more h k. g.met.R.Source.brings_more c.args.source.now s t got more h k) c.in_ok-chunk.chunk next.0 next.1 c.next_piece.new.chunk c.in-Ok-Piece.piece c.next_piece.new.source c.collect_rest.new.source c.in_ok-chunk.ensures next.2 next.3 next.4 c.in-Ok-replica_of.replica.log.key c.in-Ok-replica_of.ensures.key failed.0, failed.1 ∙ ap (λ n. n + 1) (c.in-Ok-Piece.ensures.none_failed (λ h. absurd cc)))
