-- What is proved of the pieces of a log.
use Rattle.std.specs.Prelude.{◌≡◌, ◌↔◌, ℕ, ◌≤◌, ◌<◌, ◌+◌, List}
use Rattle.wasm_types.specs.declared.key.RunKey.{RunKey}
use Rattle.rw_objects.specs.Space.{Space}
use Rattle.rw_objects.specs.Code.{Code}
use Rattle.event_core.specs.declared.pick.Pick.{Pick}
use Rattle.event_core.specs.World.{WorldAt}
use Rattle.log_pieces.specs.Piece.{PieceValue, greatest_object}
use Rattle.replica.specs.declared.log.Log.{Log as GatheredLog}
use Rattle.replica.specs.LogOf.{Among, IsLogOf}
use Rattle.replica.specs.Counts.{IsComplete}
use Rattle.replay_laws.specs.Log.{Log, IsBelowLog, IsCompleteLog}
use Rattle.replay_laws.specs.RunLog.{run_log}
use Rattle.replay_laws.specs.Laws.{IsWholeRun}
use Rattle.recorder.specs.ThreadLogAt.{ThreadLogAt, log_of}
use Rattle.run_pieces.specs.Joined.{gathered_log}
use Rattle.run_pieces.specs.PieceOf.{EachPieceOf, IsCovered, ArePiecesOf}
use Rattle.run_pieces.specs.Cut.{pieces_of}
use Rattle.run_pieces.specs.Keeps.{KeepsRules}

-- the joined log of pieces of a log knows no more than that log
abbrev pub JoinedLogsAreBelow : Type 0
JoinedLogsAreBelow = (key : RunKey) (log : Log) (pieces : List PieceValue) → EachPieceOf key log pieces
    → (gathered : GatheredLog) → IsLogOf (Among pieces) gathered → IsBelowLog (gathered_log gathered) log

-- the joined log of pieces that cover a log is that log
abbrev pub CoveringPiecesMakeTheLog : Type 0
CoveringPiecesMakeTheLog = (key : RunKey) (log : Log) (pieces : List PieceValue) → EachPieceOf key log pieces → IsCovered pieces log
    → (gathered : GatheredLog) → IsLogOf (Among pieces) gathered → gathered_log gathered ≡ log

-- a gathered log is the whole log of so many threads exactly where the laws of replay call it complete
abbrev pub WholeLogsAreComplete : Type 0
WholeLogsAreComplete = (threads : ℕ) (gathered : GatheredLog) → IsComplete threads gathered ↔ IsCompleteLog threads (gathered_log gathered)

-- what a recorded run is cut into are pieces of its log, whose joined log is that log
abbrev pub CutsArePieces : Type 0
CutsArePieces = (key : RunKey) (threads : List ThreadLogAt) (size : ℕ) → 0 < size → ArePiecesOf key (log_of threads) (pieces_of key threads size)

module _ {State Op Reply Value Fixed : Type 0} (space : Space Op Reply Value Fixed) (code : Code State Op Reply Fixed) where
  -- the recorded log of a run over no more objects than the profile has keeps the rules of pieces
  abbrev pub RecordedRunsKeepRules : Type 0
  RecordedRunsKeepRules = (w : WorldAt State Value Fixed) (ps : List Pick) → IsWholeRun space code w ps
      → (key : RunKey) → space.objects w.memory.fixed ≤ greatest_object key.profile + 1
      → (threads : List ThreadLogAt) → log_of threads ≡ run_log space code w ps → KeepsRules key threads
