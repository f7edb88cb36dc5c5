-- Pieces of a log.
use Rattle.std.specs.Prelude.{◌≡◌, ℕ, ◌+◌, List, Option, Some, None, slice_get}
use Rattle.wasm_types.specs.declared.key.RunKey.{RunKey}
use Rattle.rw_objects.specs.declared.entry.Entry.{Entry}
use Rattle.log_pieces.specs.declared.flat.Flat.{Flat}
use Rattle.log_pieces.specs.declared.flat.Flat.TheVariants.{Known, Clash}
use Rattle.log_pieces.specs.declared.end.End.{End}
use Rattle.log_pieces.specs.Piece.{PieceValue}
use Rattle.replica.specs.declared.log.Log.{Log as GatheredLog}
use Rattle.replica.specs.LogOf.{ClaimsEntry, ClaimsEnd, Among, IsLogOf}
use Rattle.replay_laws.specs.Log.{Log}
use Rattle.run_pieces.specs.Joined.{gathered_log}

-- a piece of a log: the log's key, consecutive places of a thread with the log's entries, and perhaps the log's end of
-- that thread
pub record IsPieceOf (key : RunKey) (log : Log) (piece : PieceValue) : Type 0 where
  pub of_run : piece.key ≡ key
  pub entries : (i : ℕ) (entry : Entry) → slice_get piece.entries i ≡ Some entry → log.entry piece.thread (piece.first + i) ≡ Some (Known entry)
  pub ends : (end : End) → piece.end ≡ Some end → log.end piece.thread ≡ Some (Known end)

-- each of these is a piece of the log
abbrev pub EachPieceOf : RunKey → Log → List PieceValue → Type 0
EachPieceOf key log pieces = (piece : PieceValue) → Among pieces piece → IsPieceOf key log piece

-- an item that is known is claimed, and there is no clash
abbrev pub IsClaimed : {T : Type 0} → (T → Type 0) → Option (Flat T) → Type 0
IsClaimed claimed None = Unit {0}
IsClaimed claimed (Some (Known item)) = claimed item
IsClaimed claimed (Some Clash) = ⊥

-- the pieces cover the log: each of its items is known, and one of them has it
pub record IsCovered (pieces : List PieceValue) (log : Log) : Type 0 where
  pub entries : (thread place : ℕ) → IsClaimed (λ entry. (piece : PieceValue) × Among pieces piece × ClaimsEntry piece thread place entry) (log.entry thread place)
  pub ends : (thread : ℕ) → IsClaimed (λ end. (piece : PieceValue) × Among pieces piece × ClaimsEnd piece thread end) (log.end thread)

-- pieces of the log, whose joined log is that log
pub record ArePiecesOf (key : RunKey) (log : Log) (pieces : List PieceValue) : Type 0 where
  pub each : EachPieceOf key log pieces
  pub joined : (gathered : GatheredLog) → IsLogOf (Among pieces) gathered → gathered_log gathered ≡ log
