-- One piece more came.
use Rattle.std.proofs.Common.{◌≡◌, ℕ, suc, ◌+◌, List, ◌∷◌, ◌++◌, ap, ◌∙◌, add-one}
use Rattle.run_pieces.specs.Piece.{PieceValue}
use Rattle.replica.specs.declared.log.Log.{Log}
use Rattle.replica.specs.Log.{key_of}
use Rattle.replica.specs.LogOf.{IsLogOf, Among}
use Rattle.wasm_record.specs.Channels.{HasReceived}

pub one_more : (before now next : Log) (count : ℕ) (piece : PieceValue) → HasReceived before now count → piece.key ≡ key_of now → key_of next ≡ key_of now
    → ((ps : List PieceValue) → IsLogOf (Among ps) now → IsLogOf (Among (piece ∷ ps)) next) → HasReceived before next (count + 1)
one_more before now next count piece so_far same key log = record {
  pieces = piece ∷ so_far.pieces;
  amount = add-one count ∙ ap suc so_far.amount;
  of_run = (same ∙ so_far.key, so_far.of_run);
  key = key ∙ so_far.key;
  log = λ others is. log (so_far.pieces ++ others) (so_far.log others is);
}
