use Rattle.std.proofs.Common.{◌≡◌, ◌∷◌, [], ◌++◌, refl, subst, sym, ◌∙◌, append_assoc}
use Rattle.std.specs.Prelude.{Result, Err}
use Rattle.std.specs.Result.{result_ok}
use Rattle.log_pieces.specs.declared.fault.LineFault.{LineFault}
use Rattle.log_pieces.specs.declared.fault.LineFault.TheVariants.{TooLong}
use Rattle.log_pieces.specs.Piece.{PieceValue}
use Rattle.replica.specs.Judged.{IsJudged}
use Rattle.replica.proofs.LineLemmas.{no_end_append}
use Rattle.replica.proofs.TextLemmas.{long_bad, long_some, got_both}
use Rattle.replica.proofs.judging.next_whole.Goals as goal

pub returns-in-Ok-true-clause-line : goal.returns-in-Ok-true-clause-line
returns-in-Ok-true-clause-line g c judged is =
    let t = c.in-Ok-TooLong.ensures.too_long (cc (c.in-Ok-TooLong.field-0-is)) in
    let w = c.in-Ok-true.ensures.whole (cc (c.in-Ok-true.field-0-test)) in
    let bad : Err TooLong ≡ judged = cc (is) in (
      t.0 ++ w.0,
      t.1 ++ w.1,
      g.met.R.Source.brings_more c.args.source.now c.next_judged.new.source c.pass_line.new.source t.0 w.0 t.2 w.2,
      no_end_append t.1 w.1 t.3 w.3,
      got_both c.args.chunk.now t.0 t.1 c.next_judged.new.chunk w.0 (w.1 ++ 10 ∷ c.pass_line.new.chunk) t.4 w.4 ∙ sym (append_assoc t.1 w.1 (10 ∷ c.pass_line.new.chunk)),
      subst (λ (j : Result PieceValue LineFault). IsJudged (t.1 ++ w.1 ++ 10 ∷ []) (result_ok j)) bad (λ piece line. long_bad t.1 w.1 piece t.5 line),
    )

pub returns-in-Ok-false-clause-last : goal.returns-in-Ok-false-clause-last
returns-in-Ok-false-clause-last g c judged is =
    let t = c.in-Ok-TooLong.ensures.too_long (cc (c.in-Ok-TooLong.field-0-is)) in
    let w = c.in-Ok-false.ensures.last (cc (c.in-Ok-false.field-0-test)) in
    let rest = c.next_judged.new.chunk ++ w.0 in
    let bad : Err TooLong ≡ judged = cc (is) in (
      t.0 ++ w.0,
      t.1 ++ rest,
      g.met.R.Source.brings_more c.args.source.now c.next_judged.new.source c.pass_line.new.source t.0 w.0 t.2 w.1,
      w.2,
      no_end_append t.1 rest t.3 w.3,
      long_some t.1 rest t.5,
      got_both c.args.chunk.now t.0 t.1 c.next_judged.new.chunk w.0 rest t.4 refl,
      subst (λ (j : Result PieceValue LineFault). IsJudged (t.1 ++ rest ++ 10 ∷ []) (result_ok j)) bad (λ piece line. long_bad t.1 rest piece t.5 line),
    )
