-- What is put are the bytes of the touch.
use Rattle.std.proofs.Common.{◌∷◌, ◌++◌, sym, ap, ◌∙◌}
use Rattle.log_pieces.specs.Spelling.{touch_bytes}
use Rattle.log_pieces.proofs.writing.put_lone.Goals as goal

pub returns-in_ok-extend_from_slice-in-Read-clause-put : goal.returns-in_ok-extend_from_slice-in-Read-clause-put
returns-in_ok-extend_from_slice-in-Read-clause-put c =
    c.in_ok-extend_from_slice-in-Read.ensures.items ∙ ap (λ l. c.args.out.now.items ++ l) (c.lone_read.ensures ∙ ap (λ l. c.args.kind ∷ 1 ∷ touch_bytes l) (sym c.in-Read.is))

pub returns-in_ok-extend_from_slice-in-Write-clause-put : goal.returns-in_ok-extend_from_slice-in-Write-clause-put
returns-in_ok-extend_from_slice-in-Write-clause-put c =
    c.in_ok-extend_from_slice-in-Write.ensures.items ∙ ap (λ l. c.args.out.now.items ++ l) (c.lone_write.ensures ∙ ap (λ l. c.args.kind ∷ 1 ∷ touch_bytes l) (sym c.in-Write.is))
