use Rattle.std.proofs.Common.{◌≡◌, [], ◌∷◌, ◌++◌, refl, sym, ap, subst}
use Rattle.std.specs.Prelude.{Option, None, Result}
use Rattle.std.specs.Result.{result_ok}
use Rattle.log_pieces.specs.declared.fault.LineFault.{LineFault}
use Rattle.log_pieces.specs.Piece.{PieceValue}
use Rattle.replica.specs.declared.skipping.Skipped.{Skipped}
use Rattle.replica.specs.Judged.{HasFound}
use Rattle.replica.proofs.FoundLemmas.{put_bad}
use Rattle.replica.proofs.skipping.Kept.put.Goals as goal

pub returns-in-Err : goal.returns-in-Err
returns-in-Err c lines h =
    let none : result_ok c.args.judged.now ≡ None = ap (λ (r : Result PieceValue LineFault). result_ok r) c.in-Err.is in
    let new : Skipped = record { bad = c.saturating_add-self.result; foreign = c.args.self.now.skipped.foreign } in
    subst (λ (j : Option PieceValue). HasFound (lines ++ j ∷ []) c.args.self.now.replica new) (sym none)
    (put_bad lines c.args.self.now.replica c.args.self.now.skipped h new c.saturating_add-self.ensures refl)
