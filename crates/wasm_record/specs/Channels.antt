-- What goes through a channel of pieces. That a message arrives, once and in order, no contract of the channel says.
use Rattle.std.specs.Prelude.{◌≡◌, ℕ, ◌<◌, List, ◌++◌, length}
use Rattle.run_pieces.specs.Piece.{PieceValue}
use Rattle.replica.specs.declared.log.Log.{Log}
use Rattle.replica.specs.Log.{key_of}
use Rattle.replica.specs.Gathered.{AreOfRun}
use Rattle.replica.specs.LogOf.{IsLogOf, Among, IsJoinedWith, first_items}
use Rattle.run_pieces.specs.Cut.{IsPiecesFault}
use Rattle.wasm_record.specs.declared.fault.SendFault.{SendFault}
use Rattle.wasm_record.specs.declared.fault.SendFault.TheVariants.{Pieces, NotSent}

-- of so many pieces one was not sent
abbrev pub IsNotSent : ℕ → SendFault → Type 0
IsNotSent count (NotSent sent) = sent < count
IsNotSent count (Pieces fault) = ⊥

-- there are no pieces of that size, or of so many pieces one was not sent
abbrev pub IsSendFault : ℕ → ℕ → SendFault → Type 0
IsSendFault size count (Pieces fault) = IsPiecesFault size fault
IsSendFault size count fault = IsNotSent count fault

-- so many pieces of the run came, and they are joined to the log
pub record HasReceived (before after : Log) (count : ℕ) : Type 0 where
  pub pieces : List PieceValue
  pub amount : count ≡ length pieces
  pub of_run : AreOfRun (key_of before) pieces
  pub key : key_of after ≡ key_of before
  pub log : (others : List PieceValue) → IsLogOf (Among others) before → IsLogOf (Among (pieces ++ others)) after

-- some came and are joined to the log, and then the first items of one more
pub record HasReceivedInPart (before after : Log) : Type 0 where
  pub received : ℕ
  pub middle : Log
  pub came : HasReceived before middle received
  pub last : PieceValue
  pub of_run : last.key ≡ key_of before
  pub count : ℕ
  pub joined : IsJoinedWith middle (first_items count last) after
