-- What `record` answers, by what its files may hold.
use Rattle.std.specs.Prelude.{◌≡◌, ◌⊎◌, ◌<◌, ◌≤◌, ◌+◌, ◌&&◌, ℕ, Bool, true, false, List, [], ◌∷◌, ◌++◌, Ok, min, nat_le, cond, codes}
use Rattle.std.specs.List.{flat_map}
use Rattle.std.specs.Fmt.{decimal}
use Rattle.wasm_types.specs.declared.outcome.Outcome.{Outcome}
use Rattle.wasm_types.specs.declared.outcome.Outcome.TheVariants.{Running}
use Rattle.wasm_types.specs.declared.modules.Module.{Module}
use Rattle.wasm_types.specs.declared.key.Profile.TheVariants.{Two}
use Rattle.wasm_record.specs.Pick.{Pick}
use Rattle.thread_plan.specs.Plans.{PlanValue}
use Rattle.pick_schedule.specs.Schedule.{schedule_of, IsFaultOf}
use Rattle.replica.specs.Line.{line_of}
use Rattle.replica.specs.End.{End}
use Rattle.wasm_record.specs.Cut.{pieces_of, IsPiecesFault}
use Rattle.wasm_types.specs.declared.sizes.TheConstants.{MOST_STEPS}
use Rattle.wasm_record.specs.ThreadLogAt.{ThreadLogAt, RecordedAt}
use Rattle.wasm_record.specs.Recordings.{RecordingAt, IsKeyOf, RecordsRun, RecordsThreads, RecordsRandom}
use Rattle.debug_views.specs.Report.{noted_text}
use Rattle.debug_views.specs.ThreadNotes.{AreNotesOfEnd}
use Rattle.debug_views.specs.declared.notes.Notes.{Notes}
use Rattle.debug_views.specs.declared.notes.Notes.TheVariants.{Nothing, Names, Offsets}
use Rattle.replica.specs.declared.log.Log.{Log}
use Rattle.replica.specs.Log.{key_of}
use Rattle.replica.specs.LogOf.{Among, IsLogOf}
use Rattle.command_words.specs.declared.requests.RecordForm.{RecordForm}
use Rattle.command_words.specs.declared.requests.RecordForm.TheVariants.{Pieces, Report}
use Rattle.commands.specs.Notes.{notes_by}
use Rattle.command_words.specs.declared.requests.RecordOrder.{RecordOrder}
use Rattle.command_words.specs.declared.requests.RecordOrder.TheVariants as order
use Rattle.command_words.specs.declared.requests.RecordRequest.{RecordRequest}
use Rattle.commands.specs.Files.{IsFileFault}
use Rattle.commands.specs.declared.files.InputFile.TheVariants as input
use Rattle.commands.specs.Inputs.{IsProgram, IsProgramRefused}
use Rattle.commands.specs.declared.fault.Fault.{Fault}
use Rattle.commands.specs.declared.fault.Fault.TheVariants.{File, Schedule, Pieces as Size, NoMemory}

module _ (holds : List ℕ → Type 0) where
  -- the picks of the schedule in the file
  abbrev pub IsScheduleFile : List Pick → Type 0
  IsScheduleFile picks = (bytes : List ℕ) × holds bytes × (schedule_of bytes ≡ Ok picks)

  abbrev pub IsScheduleRefused : Type 0 → Fault → Type 0
  IsScheduleRefused fails (File fault of) = (of ≡ input.Schedule) × IsFileFault fails fault
  IsScheduleRefused fails (Schedule fault quote) = (bytes : List ℕ) × holds bytes × IsFaultOf (schedule_of bytes) fault
  IsScheduleRefused fails _ = ⊥

-- there are no pieces of so many entries, or there is no memory for the run or its text
abbrev pub IsRecordRefusal : ℕ → Fault → Type 0
IsRecordRefusal entries (Size fault) = IsPiecesFault entries fault
IsRecordRefusal entries NoMemory = Unit {0}
IsRecordRefusal entries _ = ⊥

-- the lines of the pieces of a recording
abbrev pub pieces_text : ℕ → RecordingAt → List ℕ
pieces_text entries r = flat_map line_of (pieces_of r.key r.recorded.threads entries)

module _ (m : Module) (plan : PlanValue) (entries : ℕ) (r : RecordingAt) where
  -- of the log that the pieces of the recording make, where threads stand at the end of its replay
  pub record AreNotesByReplay (asked : Notes) (notes : List (List ℕ)) : Type 0 where
    pub log : Log
    pub same_key : key_of log ≡ r.key
    pub is_log : IsLogOf (Among (pieces_of r.key r.recorded.threads entries)) log
    pub are_notes : AreNotesOfEnd m plan log [] asked notes

  -- what is asked for of where threads stand at the end of the run
  abbrev pub AreNotesOfRun : Notes → List (List ℕ) → Type 0
  AreNotesOfRun Nothing notes = notes ≡ []
  AreNotesOfRun Names notes = AreNotesByReplay Names notes
  AreNotesOfRun Offsets notes = AreNotesByReplay Offsets notes

  -- the lines of its pieces, or the report of the run's end, with what is asked for of where threads stand there
  abbrev pub IsRecordedText : RecordForm → List ℕ → Type 0
  IsRecordedText Pieces text = text ≡ pieces_text entries r
  IsRecordedText (Report names offsets) text = (notes : List (List ℕ)) × AreNotesOfRun (notes_by names offsets) notes × (text ≡ noted_text notes r.recorded.end)

abbrev pub is_running : Outcome → Bool
is_running Running = true
is_running _ = false

-- a thread has steps left when it has made as many as it may
abbrev pub has_stopped : ℕ → End → Bool
has_stopped most end = is_running end.outcome && nat_le most end.steps

-- the threads that have, which are numbered from `thread` on
abbrev pub stopped_from : ℕ → ℕ → List ThreadLogAt → List ℕ
stopped_from most thread [] = []
stopped_from most thread (l ∷ ls) = cond (has_stopped most l.end) (thread ∷ stopped_from most (thread + 1) ls) (stopped_from most (thread + 1) ls)

-- a line of these threads, if there are any
abbrev pub stopped_line : ℕ → List ℕ → List ℕ
stopped_line most [] = []
stopped_line most (thread ∷ threads) = codes "threads stopped at --steps " ++ (decimal most ++ (codes ":" ++ (flat_map (λ t. 32 ∷ decimal t) (thread ∷ threads) ++ codes "\n")))

-- the text of a recording or a hunt, and what is told beside it
pub record AnswerAt : Type 0 where
  pub text : List ℕ
  pub told : List ℕ

-- what a recording answers that asks for this
pub record IsAnswer (m : Module) (plan : PlanValue) (request : RecordRequest) (r : RecordingAt) (answer : AnswerAt) : Type 0 where
  pub text : IsRecordedText m plan request.size r request.form answer.text
  pub told : answer.told ≡ stopped_line request.steps (stopped_from request.steps 0 r.recorded.threads)

-- what was recorded is of a run of that number, is so, and is answered
pub record IsAnswerOf (m : Module) (plan : PlanValue) (request : RecordRequest) (records : RecordedAt → Type 0) (answer : AnswerAt) : Type 0 where
  pub recording : RecordingAt
  pub some : 0 < request.size
  pub few : request.size ≤ 4096
  pub key : IsKeyOf m plan request.run (Two request.block) recording.key
  pub is_recorded : records recording.recorded
  pub is : IsAnswer m plan request recording answer

-- the run that the picks make is recorded
abbrev pub IsRunOf : Module → PlanValue → RecordRequest → List Pick → RecordedAt → Type 0
IsRunOf m plan request picks = RecordsRun m plan (Two request.block) picks request.steps

-- a run is recorded that threads made at once; where time-outs are wanted, any wait with a limit of time may time out
abbrev pub IsRunOfThreads : Module → PlanValue → RecordRequest → Bool → RecordedAt → Type 0
IsRunOfThreads m plan request times_out = RecordsThreads m plan (Two request.block) (λ t s. times_out) (min request.steps MOST_STEPS)

-- the run is recorded that the number of the run draws, with time-outs or without
abbrev pub IsRandomRunOf : Module → PlanValue → RecordRequest → Bool → RecordedAt → Type 0
IsRandomRunOf m plan request times_out = RecordsRandom m plan (Two request.block) request.run times_out request.steps

module _ (holds : List ℕ → List ℕ → Type 0) where
  -- the module and the plan in the files, and what is recorded of them, by the order that was asked for
  abbrev pub IsRecordedBy : Module → PlanValue → RecordRequest → RecordOrder → AnswerAt → Type 0
  IsRecordedBy m plan request (order.Schedule path) answer = (picks : List Pick) × IsScheduleFile (holds path.now) picks × IsAnswerOf m plan request (IsRunOf m plan request picks) answer
  IsRecordedBy m plan request (order.Threads times_out) answer = IsAnswerOf m plan request (IsRunOfThreads m plan request times_out) answer
  IsRecordedBy m plan request (order.Random times_out) answer = IsAnswerOf m plan request (IsRandomRunOf m plan request times_out) answer

  pub record IsRecordAnswer (request : RecordRequest) (answer : AnswerAt) : Type 0 where
    pub m : Module
    pub plan : PlanValue
    pub has_program : IsProgram holds request.«module».now request.plan.now m plan
    pub is_recorded : IsRecordedBy m plan request request.order answer

  -- the schedule is refused, if there is one; else the recording
  abbrev pub IsOrderRefused : (List ℕ → Type 0) → RecordRequest → RecordOrder → Fault → Type 0
  IsOrderRefused fails request (order.Schedule path) fault = IsScheduleRefused (holds path.now) (fails path.now) fault
      ⊎ ((picks : List Pick) × IsScheduleFile (holds path.now) picks × IsRecordRefusal request.size fault)
  IsOrderRefused fails request (order.Threads times_out) fault = IsRecordRefusal request.size fault
  IsOrderRefused fails request (order.Random times_out) fault = IsRecordRefusal request.size fault

  -- the first refusal: of the module, else of the plan, else of the schedule, else of the size of the pieces
  abbrev pub IsRecordRefused : (List ℕ → Type 0) → RecordRequest → Fault → Type 0
  IsRecordRefused fails request fault = IsProgramRefused holds fails request.«module».now request.plan.now fault
      ⊎ ((m : Module) × (plan : PlanValue) × IsProgram holds request.«module».now request.plan.now m plan × IsOrderRefused fails request request.order fault)
