use Rattle.std.proofs.Common.{◌≡◌, ℕ, List, [], ◌∷◌, ◌++◌, sym, subst, ◌∙◌, append_assoc, inr}
use Rattle.std.specs.Prelude.{Ok, Err}
use Rattle.log_pieces.specs.Piece.{PieceValue}
use Rattle.log_pieces.specs.Line.{IsLineOf}
use Rattle.replica.proofs.TextLemmas.{bad_whole, bad_long}
use Rattle.replica.proofs.gathering.next_piece.Goals as goal

pub returns-in-Ok-Line-Ok-clause-piece : goal.returns-in-Ok-Line-Ok-clause-piece
returns-in-Ok-Line-Ok-clause-piece g c piece is =
    let w = c.in-Ok-Line-Ok.ensures.line (Ok c.in-Ok-Line-Ok.piece) (cc (c.in-Ok-Line-Ok.field-0-is, c.in-Ok-Line-Ok.field-0-0-is)) in
    let same : c.in-Ok-Line-Ok.piece ≡ piece = cc (is) in (
      w.0,
      w.1 ++ 10 ∷ [],
      w.2,
      subst (λ (p : PieceValue). IsLineOf (w.1 ++ 10 ∷ []) p) same w.5,
      w.4 ∙ sym (append_assoc w.1 (10 ∷ []) c.next_judged.new.chunk),
    )

pub returns-in-Ok-Line-Err-clause-bad : goal.returns-in-Ok-Line-Err-clause-bad
returns-in-Ok-Line-Err-clause-bad g c n reason is =
    let w = c.in-Ok-Line-Err.ensures.line (Err c.in-Ok-Line-Err.reason) (cc (c.in-Ok-Line-Err.field-0-is, c.in-Ok-Line-Err.field-0-0-is)) in
    (cc (is), w.0, w.2, bad_whole (g.R.Source.ended c.next_judged.new.source) (c.args.chunk.now ++ w.0) w.1 c.next_judged.new.chunk w.3 w.4 w.5)

pub returns-in-Ok-Last-Err-clause-bad : goal.returns-in-Ok-Last-Err-clause-bad
returns-in-Ok-Last-Err-clause-bad g c n reason is =
    let w = c.in-Ok-Last-Err.ensures.last (Err c.in-Ok-Last-Err.reason) (cc (c.in-Ok-Last-Err.field-0-is, c.in-Ok-Last-Err.field-0-0-is)) in
    (cc (is), w.0, w.2, inr (w.3, λ none. w.5 (sym w.6 ∙ none), λ piece line. w.7 piece (subst (λ (l : List ℕ). IsLineOf (l ++ 10 ∷ []) piece) w.6 line)))

pub returns-in-Ok-TooLong-clause-bad : goal.returns-in-Ok-TooLong-clause-bad
returns-in-Ok-TooLong-clause-bad g c n reason is =
    let w = c.in-Ok-TooLong.ensures.too_long (cc (c.in-Ok-TooLong.field-0-is)) in
    (cc (is), w.0, w.2, bad_long (g.R.Source.ended c.next_judged.new.source) (c.args.chunk.now ++ w.0) w.1 c.next_judged.new.chunk w.3 w.4 w.5)
