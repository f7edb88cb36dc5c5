-- What the program answers.
use Rattle.std.specs.Prelude.{◌≡◌, ◌≤◌, ◌⊎◌, ℕ, List, [], ◌∷◌, ◌++◌, ◌==◌, Bool, Option, Some, None, true, false, codes, cond, map, nat_le, option_map}
use Rattle.std.specs.Fmt.{decimal}
use Rattle.clap.specs.Words.{Text}
use Rattle.text_lines.specs.Quotes.{quoted}
use Rattle.program.specs.declared.answering.OddWord.{OddWord}
use Rattle.log_pieces.specs.Piece.{PieceValue}
use Rattle.replica.specs.Gathered.{IsText, IsListing, IsBadLine, IsOtherRun, IsCutText}
use Rattle.replica.specs.Judged.{AreJudged, IsSkipped}
use Rattle.replica.specs.declared.form.ListingForm.{ListingForm}
use Rattle.replica.specs.declared.diverging.EventAt.{EventAt}
use Rattle.replica.specs.declared.skipping.Skipped.{Skipped}
use Rattle.replica.specs.declared.fault.GatherFault.{GatherFault}
use Rattle.replica.specs.declared.fault.GatherFault.TheVariants as gathering
use Rattle.command_words.specs.Asked.{Asks, AsksNothing, AsksForText, asks_why}
use Rattle.command_words.specs.declared.requests.GatherForm.{GatherForm}
use Rattle.command_words.specs.declared.requests.GatherForm.TheVariants as form
use Rattle.command_words.specs.declared.requests.Request.{Request}
use Rattle.command_words.specs.declared.requests.Request.TheVariants as request
use Rattle.command_words.specs.declared.requests.ThreadCount.{ThreadCount}
use Rattle.replica.specs.Chosen.{IsObjectListing}
use Rattle.replica.specs.Chart.{IsChart}
use Rattle.commands.specs.Texts.{fault_text}
use Rattle.explanations.specs.Explained.{IsExplanation}
use Rattle.commands.specs.PlanChecks.{IsCheckAnswer, IsNotChecked}
use Rattle.commands.specs.Notes.{notes_by}
use Rattle.commands.specs.Records.{AnswerAt, IsRecordAnswer, IsRecordRefused}
use Rattle.commands.specs.Hunts.{IsHuntAnswer, IsHuntRefused}
use Rattle.commands.specs.Replays.{IsInputRefused, IsReplayedText, IsReplayRefused}
use Rattle.commands.specs.Views.{IsViewedText, IsViewRefused}
use Rattle.commands.specs.Traces.{IsTracedText, IsTraceRefused}
use Rattle.commands.specs.Debugs.{IsDebugText, IsDebugStopped}
use Rattle.commands.specs.Adapts.{IsAdapted, IsAdapterStopped}
use Rattle.commands.specs.declared.fault.Fault.{Fault}
use Rattle.commands.specs.declared.fault.Fault.TheVariants.{Gather, NoMemory, SinkFailed}

-- the program's fault where gathering is refused
abbrev pub fault_of : GatherFault → Fault
fault_of gathering.SinkFailed = SinkFailed
fault_of fault = Gather fault

-- a command that reads its standard input
abbrev pub reads_input : Request → Bool
reads_input (request.Gather skips form) = true
reads_input (request.Debug r) = true
reads_input request.Adapter = true
reads_input r = false

-- what a listing by threads says
abbrev pub form_of : Bool → Bool → ListingForm
form_of objects contradictions = record { objects = objects; contradictions = contradictions }

-- the event at a place of a thread
abbrev pub event_of : ThreadCount → EventAt
event_of c = record { thread = c.thread; place = c.count }

-- the text is the log of these pieces in that form: a listing by threads or by objects, or a picture
abbrev pub IsInForm : GatherForm → List PieceValue → List ℕ → Type 0
IsInForm (form.ByThread objects contradictions) = IsListing (form_of objects contradictions)
IsInForm (form.ByObject only shared) = IsObjectListing (record { only = only.items; shared = shared })
IsInForm (form.Chart only from to) = IsChart (record { only = only.items; from = option_map event_of from; to = option_map event_of to })

module _ {Sink : Type 0} (takes : List ℕ → Sink → Type 0) where
  -- a beginning of the text was taken
  abbrev pub WritesSome : List ℕ → Sink → Type 0
  WritesSome text sink = (part rest : List ℕ) × (text ≡ part ++ rest) × takes part sink

-- the source brought lines of pieces, up to its end, and this is the listing of their log
pub record IsListed (is_listing_of : List PieceValue → List ℕ → Type 0) (brought : List ℕ → Type 0) (ended : Type 0) (listed : List ℕ) : Type 0 where
  pub text : List ℕ
  pub came : brought text
  pub end : ended
  pub pieces : List PieceValue
  pub lines : IsText text pieces
  pub is_listing : is_listing_of pieces listed

-- the source brought a text, up to its end, and this is the listing of the pieces that are kept of its lines; their
-- numbers were told
pub record IsListedSkipping (is_listing_of : List PieceValue → List ℕ → Type 0) (brought : List ℕ → Type 0) (ended : Type 0) (counted : Skipped → Type 0) (listed : List ℕ) : Type 0 where
  pub text : List ℕ
  pub came : brought text
  pub end : ended
  pub lines : List (Option PieceValue)
  pub judged : AreJudged text lines
  pub skipped : Skipped
  pub kept : List PieceValue
  pub is_skipped : IsSkipped lines skipped kept
  pub is_listing : is_listing_of kept listed
  pub told : counted skipped

-- why what the source brought is refused; `broke` says that the source failed
abbrev pub IsGatherRefused : (List ℕ → Type 0) → Type 0 → Type 0 → Fault → Type 0
IsGatherRefused brought ended broke (Gather (gathering.OtherRun line own first)) = (text : List ℕ) × brought text × IsOtherRun text line own first
IsGatherRefused brought ended broke (Gather gathering.NoMemory) = Unit {0}
IsGatherRefused brought ended broke (Gather (gathering.BadLine line reason)) = (text : List ℕ) × brought text × IsBadLine ended text line
IsGatherRefused brought ended broke (Gather gathering.SourceFailed) = ((text : List ℕ) × brought text × IsCutText text) × broke
IsGatherRefused brought ended broke _ = ⊥

-- the same where no line is refused
abbrev pub IsSkippingRefused : Type 0 → Fault → Type 0
IsSkippingRefused broke (Gather gathering.NoMemory) = Unit {0}
IsSkippingRefused broke (Gather gathering.SourceFailed) = broke
IsSkippingRefused broke _ = ⊥

-- What the source brought, and whether it ended.
module _ (brought : List ℕ → Type 0) (ended : Type 0) where
  -- the text of the log of what came, or of the lines that can be joined; `counted` says that the numbers of lines
  -- passed over were told, and `said` that nothing was
  abbrev pub IsGatheredText : (Skipped → Type 0) → Type 0 → Bool → (List PieceValue → List ℕ → Type 0) → List ℕ → Type 0
  IsGatheredText counted said false is_of text = IsListed is_of brought ended text × said
  IsGatheredText counted said true is_of text = IsListedSkipping is_of brought ended counted text

  -- when each fault is answered
  abbrev pub IsNotGathered : Type 0 → Bool → Fault → Type 0
  IsNotGathered broke false fault = IsGatherRefused brought ended broke fault
  IsNotGathered broke true fault = IsSkippingRefused broke fault

-- the line of a fault
abbrev pub fault_line : Fault → List ℕ
fault_line fault = fault_text fault ++ 10 ∷ []

-- a byte as a line shows it: control characters, those below 32 and 127, are `?`
abbrev pub shown : ℕ → ℕ
shown byte = cond (nat_le 32 byte) (cond (byte == 127) 63 byte) 63

-- the reason in words, or that there is no memory for it
abbrev pub IsReason : Request → Fault → List ℕ → Type 0
IsReason r fault text = IsExplanation r fault text ⊎ (text ≡ codes "memory: the words of the reason do not fit into it")

-- the line of a fault is told; and where the words ask for the reason, this in one more line
abbrev pub IsTold : (List ℕ → Type 0) → Bool → Request → Fault → Type 0
IsTold tells false r fault = tells (fault_line fault)
IsTold tells true r fault = (text : List ℕ) × IsReason r fault text × tells (fault_line fault ++ (map shown text ++ 10 ∷ []))

-- where the words ask for it this is told, and else nothing
abbrev pub IsSaid : (List ℕ → Type 0) → Bool → List ℕ → Type 0
IsSaid tells false line = tells []
IsSaid tells true line = tells line

-- what is said of a word of the command line that is no text: its number, and its bytes as they are quoted
abbrev pub odd_line : ℕ → List ℕ → List ℕ
odd_line number bytes = codes "error: word " ++ (decimal number ++ (codes " of the command line is not UTF-8: " ++ (quoted bytes ++ codes "\n")))

-- what is said where words of the command line are no text: which of them, where that is known, or just that one is
abbrev pub not_text_line : Option OddWord → List ℕ
not_text_line None = codes "error: a word of the command line is not UTF-8\n"
not_text_line (Some word) = odd_line word.number word.bytes.now

module _ (took : List ℕ → Type 0) where
  -- the output took such a text
  abbrev pub IsShown : (List ℕ → Type 0) → Type 0
  IsShown is = (text : List ℕ) × is text × took text

  -- the output took a beginning of such a text
  abbrev pub IsCut : (List ℕ → Type 0) → Type 0
  IsCut is = (text part rest : List ℕ) × is text × (text ≡ part ++ rest) × took part

-- writing such a text stops: it is refused, and nothing was written; or the output failed behind a beginning of one
abbrev pub IsTextStopped : (Fault → Type 0) → (List ℕ → Type 0) → (List ℕ → Type 0) → Type 0 → Type 0 → Fault → Type 0
IsTextStopped refused is took unwritten unwritable fault = (refused fault × unwritten) ⊎ ((fault ≡ SinkFailed) × unwritable × IsCut took is)

-- the source failed, or the output did, where the fault says so
abbrev pub IsFailure : (broke unwritable : Type 0) → Fault → Type 0
IsFailure broke unwritable fault = ((fault ≡ Gather gathering.SourceFailed) → broke) × ((fault ≡ SinkFailed) → unwritable)

-- What the files may hold and which may fail, what the source brought, and whether it ended or failed.
module _ (holds : List ℕ → List ℕ → Type 0) (fails : List ℕ → Type 0) (brought : List ℕ → Type 0) (ended broke : Type 0) where
  -- the text of a command that is done; `counted` says that the numbers of lines passed over were told, `said` that a
  -- recording's line of the threads that stopped was, or nothing, and `told` that which run is caught was
  abbrev pub IsDone : (Skipped → Type 0) → (List ℕ → Type 0) → (List ℕ → Type 0) → Request → List ℕ → Type 0
  IsDone counted said told (request.Gather skips form) text = IsGatheredText brought ended counted (said []) skips (IsInForm form) text
  IsDone counted said told (request.Check path plan) text = IsCheckAnswer holds path.now plan text × said []
  IsDone counted said told (request.Record r) text = (answer : AnswerAt) × IsRecordAnswer holds r answer × (text ≡ answer.text) × said answer.told
  IsDone counted said told (request.Hunt r) text = (answer : AnswerAt) × IsHuntAnswer holds r answer × (text ≡ answer.text) × told answer.told
  IsDone counted said told (request.Replay r by_threads names offsets) text = IsReplayedText holds r (notes_by names offsets) text × said []
  IsDone counted said told (request.View r) text = IsViewedText holds r text × said []
  IsDone counted said told (request.Trace r) text = IsTracedText holds r text × said []
  IsDone counted said told (request.Debug r) text = IsDebugText brought ended holds r text × said []
  IsDone counted said told request.Adapter text = ((came : List ℕ) × brought came × IsAdapted came ended holds fails text) × said []

  -- when each fault is answered before anything is written
  abbrev pub IsRefused : Request → Fault → Type 0
  IsRefused (request.Gather skips form) fault = IsNotGathered brought ended broke skips fault
  IsRefused (request.Check path plan) fault = IsNotChecked holds fails path.now plan fault
  IsRefused (request.Record r) fault = IsRecordRefused holds fails r fault
  IsRefused (request.Hunt r) fault = IsHuntRefused holds fails r fault
  IsRefused (request.Replay r by_threads names offsets) fault = IsReplayRefused holds fails r by_threads fault
  IsRefused (request.View r) fault = IsViewRefused holds fails r fault
  IsRefused (request.Trace r) fault = IsTraceRefused holds fails r fault
  IsRefused (request.Debug r) fault = IsInputRefused holds fails r fault
  IsRefused request.Adapter fault = ⊥

  -- Which texts the output took from first to last, whether nothing of the source was read, and whether the output took
  -- nothing, or failed.
  module _ (took : List ℕ → Type 0) (unheard unwritten unwritable : Type 0) where
    -- a command stops: it is refused, and nothing was written; or the output failed; or a dialogue or an exchange, which
    -- writes before its source comes to its end, stops before that
    abbrev pub IsStopped : Request → Fault → Type 0
    IsStopped (request.Debug r) fault = IsDebugStopped brought ended took holds fails (unheard × unwritten) broke unwritable r fault
    IsStopped request.Adapter fault = IsFailure broke unwritable fault × (came text : List ℕ) × brought came × took text × IsAdapterStopped came ended holds fails fault text
    IsStopped r fault = IsTextStopped (IsRefused r) (IsDone (λ skipped. Unit {0}) (λ line. Unit {0}) (λ line. Unit {0}) r) took unwritten unwritable fault

    -- Whether numbers of lines were told, which texts were told from first to last, and whether no file and no input
    -- was read.
    module _ (counted : Skipped → Type 0) (tells : List ℕ → Type 0) (unread : Type 0) (words : List Text) where
      -- a command that does not read its standard input leaves it as it is
      abbrev pub LeavesInput : Request → Type 0
      LeavesInput r = reads_input r ≡ false → unheard

      -- the very text of the command that the words ask for, or a text of help where they ask for that, and nothing
      -- told
      abbrev pub IsDoneBy : Type 0
      IsDoneBy = ((r : Request) × Asks words r × IsShown took (IsDone counted (IsSaid tells (asks_why words)) tells r) × LeavesInput r) ⊎ (AsksForText words × unread × IsShown took (λ text. Unit {0}) × tells [])

      -- the command that the words ask for stops so; or a text of help is not written; or there is no memory for the
      -- words
      abbrev pub IsRefusedBy : Fault → Type 0
      IsRefusedBy fault = ((r : Request) × Asks words r × IsStopped r fault × IsTold tells (asks_why words) r fault × LeavesInput r)
          ⊎ ((AsksForText words × unread × (fault ≡ SinkFailed) × unwritable × IsCut took (λ text. Unit {0}) × tells (fault_line fault))
          ⊎ (unread × unwritten × (fault ≡ NoMemory) × tells (fault_line fault)))

      -- by the exit status: done, refused, not understood
      pub record IsAnswered (status : ℕ) : Type 0 where
        pub done : status ≡ 0 → IsDoneBy
        pub refused : status ≡ 1 → (fault : Fault) × IsRefusedBy fault
        pub unknown : status ≡ 2 → AsksNothing words × unread × unwritten
        pub statuses : status ≤ 2
