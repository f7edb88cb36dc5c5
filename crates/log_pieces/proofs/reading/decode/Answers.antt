use Rattle.std.proofs.Common.{arith, subst}
use Rattle.log_pieces.specs.Reading.{Refuses, piece_at}
use Rattle.log_pieces.proofs.Pieces.{piece_spells, refused}
use Rattle.log_pieces.proofs.reading.decode.Goals as goal

pub returns-in-Ok-clause-ok : goal.returns-in-Ok-clause-ok
returns-in-Ok-clause-ok c = piece_spells c.args.bytes.now c.in-Ok.piece (record { below = λ i. omega (arith, c.type_inv.bytes i) }) c.in-Ok.ensures

pub returns-in-Err-NotAPiece-clause-none : goal.returns-in-Err-NotAPiece-clause-none
returns-in-Err-NotAPiece-clause-none c fault is =
    refused c.args.bytes.now (subst (λ f. Refuses f (piece_at c.args.bytes.now)) c.in-Err-NotAPiece.field-0-is c.in-Err-NotAPiece.ensures)
