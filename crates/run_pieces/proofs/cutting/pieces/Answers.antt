-- What was cut are pieces of the recorded log.
use Rattle.std.proofs.Common.{◌<◌, sym, ap, ◌∙◌, subst, arith}
use Rattle.recorder.specs.ThreadLogAt.{log_of}
use Rattle.run_pieces.specs.PieceOf.{ArePiecesOf}
use Rattle.run_pieces.specs.Cut.{pieces_of}
use Rattle.run_pieces.proofs.Cuts.{cuts_are_pieces}
use Rattle.run_pieces.proofs.cutting.pieces.Goals as goal

pub returns-in-Ok-clause-of_log : goal.returns-in-Ok-clause-of_log
returns-in-Ok-clause-of_log c =
    let key = c.args.key.now in
    let threads = c.args.recorded.now.threads in
    let some : 0 < c.args.size = omega (arith, c.if-size-eq0.false) in
    let are = c.in-Ok.ensures ∙ ap (λ logs. pieces_of key logs c.args.size) c.log.ensures in
    subst (ArePiecesOf key (log_of threads)) (sym are) (cuts_are_pieces key threads c.args.size some)
