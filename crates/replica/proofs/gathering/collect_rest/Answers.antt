use Rattle.std.proofs.Common.{◌+◌, [], ◌∷◌, ◌++◌, refl, ap, ◌∙◌, inl, inr}
use Rattle.std.specs.Prelude.{Result, Ok, Err, OnOk}
use Rattle.replica.proofs.RestLemmas.{rest_bad, rest_cut, rest_end, rest_last, rest_other, so_far_more}
use Rattle.replica.proofs.gathering.collect_rest.Goals as goal

joined : {E A B C D : Type 0} (r : Result (Unit {0}) E) → (A → B → C → D) → OnOk r A → OnOk r B → OnOk r C → OnOk r D
joined (Ok x) f a b c = f a b c
joined (Err e) f a b c = tt

pub returns-in-Err-clause-bad : goal.returns-in-Err-clause-bad
returns-in-Err-clause-bad g c n reason is =
    let bad = c.in-Err.ensures.bad n reason (cc (is)) in
    rest_bad (g.R.Source.brings c.args.source.now) g.R.Source.brings (λ s t got more h k. g.met.R.Source.brings_more c.args.source.now s t got more h k) c.args.chunk.now c.args.replica.now.log c.loop-fault.source c.loop-fault.chunk c.loop-fault.replica.log c.loop-fault.number c.loop-fault.invariant.so_far c.next_piece.new.source bad.1 bad.2 (g.R.Source.ended c.next_piece.new.source) n (bad.0 ∙ c.saturating_add-number.ensures) bad.3

pub returns-in-Err-clause-source_failed : goal.returns-in-Err-clause-source_failed
returns-in-Err-clause-source_failed g c is =
    let failed = c.in-Err.ensures.source_failed (cc (is)) in
    let cut = failed.0 in
    (rest_cut (g.R.Source.brings c.args.source.now) g.R.Source.brings (λ s t got more h k. g.met.R.Source.brings_more c.args.source.now s t got more h k) c.args.chunk.now c.args.replica.now.log c.loop-fault.source c.loop-fault.chunk c.loop-fault.replica.log c.loop-fault.number c.loop-fault.invariant.so_far c.next_piece.new.source cut.0 cut.1 cut.2, failed.1 ∙ ap (λ n. n + 1) c.loop-fault.invariant.same)

pub returns-in-Ok-End-clause-gathered : goal.returns-in-Ok-End-clause-gathered
returns-in-Ok-End-clause-gathered g c =
    let end = c.in-Ok-End.ensures.end (cc (c.in-Ok-End.field-0-is)) in
    rest_end (g.R.Source.brings c.args.source.now) g.R.Source.brings (λ s t got more h k. g.met.R.Source.brings_more c.args.source.now s t got more h k) c.args.chunk.now c.args.replica.now.log c.loop-fault.source c.loop-fault.chunk c.loop-fault.replica.log c.loop-fault.number c.loop-fault.invariant.so_far c.next_piece.new.source end.0 end.1 (g.R.Source.ended c.next_piece.new.source) end.2 end.3

pub returns-in-Ok-Last-clause-gathered : goal.returns-in-Ok-Last-clause-gathered
returns-in-Ok-Last-clause-gathered g c =
    let last = c.in-Ok-Last.ensures.last c.in-Ok-Last.piece (cc (c.in-Ok-Last.field-0-is)) in
    joined c.join.result (λ of_run same_run log. rest_last (g.R.Source.brings c.args.source.now) g.R.Source.brings (λ s t got more h k. g.met.R.Source.brings_more c.args.source.now s t got more h k) c.args.chunk.now c.args.replica.now.log c.loop-fault.source c.loop-fault.chunk c.loop-fault.replica.log c.loop-fault.number c.loop-fault.invariant.so_far c.next_piece.new.source last.0 last.1 (g.R.Source.ended c.next_piece.new.source) c.in-Ok-Last.piece c.join.new.replica.log last.2 last.3 of_run same_run log)
    c.join.ensures.same_run c.join.ensures.key c.join.ensures.log

pub returns-in-Ok-Last-clause-other : goal.returns-in-Ok-Last-clause-other
returns-in-Ok-Last-clause-other g c n own first is =
    let last = c.in-Ok-Last.ensures.last c.in-Ok-Last.piece (cc (c.in-Ok-Last.field-0-is)) in
    let other = c.join.ensures.other n own first (cc (is)) in
    (other.2 ∙ c.loop-fault.invariant.so_far.run, rest_other (g.R.Source.brings c.args.source.now) g.R.Source.brings (λ s t got more h k. g.met.R.Source.brings_more c.args.source.now s t got more h k) c.args.chunk.now c.args.replica.now.log c.loop-fault.source c.loop-fault.chunk c.loop-fault.replica.log c.loop-fault.number c.loop-fault.invariant.so_far c.next_piece.new.source last.0 last.1 n own c.in-Ok-Last.piece (c.loop-fault.chunk ++ last.0 ++ 10 ∷ []) (other.0 ∙ c.saturating_add-number.ensures) last.3 (inr refl) other.1 other.3)

pub returns-in-Err-join-clause-other : goal.returns-in-Err-join-clause-other
returns-in-Err-join-clause-other g c n own first is =
    let next = c.in-Ok-Piece.ensures.piece c.in-Ok-Piece.piece (cc (c.in-Ok-Piece.field-0-is)) in
    let other = c.in-Err-join.ensures.other n own first (cc (is)) in
    (other.2 ∙ c.loop-fault.invariant.so_far.run, rest_other (g.R.Source.brings c.args.source.now) g.R.Source.brings (λ s t got more h k. g.met.R.Source.brings_more c.args.source.now s t got more h k) c.args.chunk.now c.args.replica.now.log c.loop-fault.source c.loop-fault.chunk c.loop-fault.replica.log c.loop-fault.number c.loop-fault.invariant.so_far c.next_piece.new.source next.0 next.2 n own c.in-Ok-Piece.piece next.1 (other.0 ∙ c.saturating_add-number.ensures) next.3 (inl (c.next_piece.new.chunk, next.4)) other.1 other.3)

pub loop-fault-preserved : goal.loop-fault-preserved
loop-fault-preserved g c =
    let next = c.in-Ok-Piece.ensures.piece c.in-Ok-Piece.piece (cc (c.in-Ok-Piece.field-0-is)) in
    record {
      so_far = so_far_more (g.R.Source.brings c.args.source.now) g.R.Source.brings (λ s t got more h k. g.met.R.Source.brings_more c.args.source.now s t got more h k) c.args.chunk.now c.args.replica.now.log c.loop-fault.source c.loop-fault.chunk c.loop-fault.replica.log c.loop-fault.number c.loop-fault.invariant.so_far c.next_piece.new.source next.0 next.2 c.saturating_add-number.result c.in-Ok-Piece.piece next.1 c.next_piece.new.chunk c.join-in-Ok-Piece.new.replica.log c.saturating_add-number.ensures next.3 next.4 c.in-Ok.ensures.same_run c.in-Ok.ensures.key c.in-Ok.ensures.log;
      same = c.in-Ok-Piece.ensures.none_failed (λ h. absurd cc) ∙ c.loop-fault.invariant.same;
    }
