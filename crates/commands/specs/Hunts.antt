-- What `hunt` answers, by what its files may hold.
use Rattle.std.specs.Prelude.{◌≡◌, ◌⊎◌, ◌<◌, ◌≤◌, ℕ, Bool, true, false, List, [], ◌∷◌, ◌++◌, Some, Ok, codes, min, not, ◌&&◌, ◌||◌}
use Rattle.std.specs.List.{flat_map, list_any}
use Rattle.std.specs.Fmt.{decimal}
use Rattle.wasm_types.specs.declared.modules.Module.{Module}
use Rattle.wasm_types.specs.declared.key.Profile.TheVariants.{Two}
use Rattle.wasm_types.specs.declared.outcome.Outcome.{Outcome}
use Rattle.wasm_types.specs.Text.{outcome_text}
use Rattle.wasm_types.specs.declared.sizes.TheConstants.{MOST_STEPS}
use Rattle.text_lines.specs.Parts.{lines}
use Rattle.thread_plan.specs.Plans.{PlanValue}
use Rattle.wasm_record.specs.Cut.{IsPiecesFault}
use Rattle.wasm_record.specs.ThreadLogAt.{RecordedAt}
use Rattle.wasm_record.specs.Pick.{Pick}
use Rattle.wasm_record.specs.Least.{IsLeast}
use Rattle.wasm_record.specs.Recordings.{RecordingAt, IsKeyOf, IsDrawnSchedule, IsNoDrawnSchedule, RecordsRun, RecordsThreads, RecordsRandom}
use Rattle.pick_schedule.specs.Schedule.{schedule_of}
use Rattle.wasm_record.specs.End.{RunEnd}
use Rattle.debug_views.specs.Report.{report_text}
use Rattle.command_words.specs.declared.requests.HuntForm.{HuntForm}
use Rattle.command_words.specs.declared.requests.HuntForm.TheVariants as form
use Rattle.command_words.specs.declared.requests.HuntRequest.{HuntRequest}
use Rattle.commands.specs.Inputs.{IsProgram, IsProgramRefused}
use Rattle.commands.specs.Records.{AnswerAt, is_running, pieces_text}
use Rattle.commands.specs.Least.{NoneIsCaught, IsLeastCaught, AreListed}
use Rattle.commands.specs.Signs.{is_caught, signs_in, wants_faults}
use Rattle.commands.specs.declared.fault.Fault.{Fault}
use Rattle.commands.specs.declared.fault.Fault.TheVariants.{Pieces, NotCaught, TooLong, NoMemory}

-- what is told of the run of a number that is caught: the number, and the lines of its report that are signs
abbrev pub caught_text : HuntRequest → ℕ → List ℕ → List ℕ
caught_text r number report = (codes "caught " ++ (decimal number ++ codes "\n")) ++ signs_in (wants_faults r.until.items r.unless.items) r.until.items (lines report)

-- what threads came to, joined by commas
abbrev pub outcomes_text : List Outcome → List ℕ
outcomes_text [] = []
outcomes_text (outcome ∷ others) = outcome_text outcome ++ flat_map (λ o. codes ", " ++ outcome_text o) others

-- the line of a run: its number, and what its threads came to
abbrev pub run_line : ℕ → List Outcome → List ℕ
run_line number outcomes = decimal number ++ 32 ∷ (outcomes_text outcomes ++ 10 ∷ [])

-- whether a list of runs is wanted, and none is caught
abbrev pub lists : HuntForm → Bool
lists form.List = true
lists _ = false

-- whether the schedule is wanted of the run that is caught
abbrev pub prints : HuntForm → Bool
prints form.Schedule = true
prints _ = false

-- whether pieces are wanted of the run as its number draws it
abbrev pub is_as_drawn : HuntForm → Bool → Bool
is_as_drawn form.Pieces shrinks = not shrinks
is_as_drawn _ shrinks = false

-- the end of a run has a report that is caught
abbrev pub shows : HuntRequest → RunEnd → Bool
shows r end = is_caught r.until.items r.unless.items (report_text end)

-- a thread could still go on at the end
abbrev pub leaves_running : List Outcome → Bool
leaves_running outcomes = list_any is_running outcomes

-- none could, if none may
abbrev pub rests : Bool → List Outcome → Bool
rests may_leave outcomes = may_leave || not (leaves_running outcomes)

-- the end of a run is such a one, and has a report that is caught
abbrev pub shows_at_rest : HuntRequest → Bool → RunEnd → Bool
shows_at_rest r may_leave end = rests may_leave end.outcomes && shows r end

-- a run is recorded whose end is judged so
pub record IsJudged (IsRun : RecordedAt → Type 0) (judge : RunEnd → Bool) (caught : Bool) : Type 0 where
  pub recorded : RecordedAt
  pub is_run : IsRun recorded
  pub judged : judge recorded.end ≡ caught

module _ (m : Module) (plan : PlanValue) (r : HuntRequest) where
  -- the run that a number draws is recorded
  abbrev pub IsRunOfNumber : ℕ → RecordedAt → Type 0
  IsRunOfNumber number = RecordsRandom m plan (Two r.block) number r.times_out r.steps

  -- it is caught, or it is not
  abbrev pub Comes : ℕ → Bool → Type 0
  Comes number = IsJudged (IsRunOfNumber number) (shows r)

  -- the number draws these picks, or no schedule has what it draws
  abbrev pub IsScheduleOfNumber : ℕ → List Pick → Type 0
  IsScheduleOfNumber number = IsDrawnSchedule m plan (Two r.block) number r.times_out r.steps

  abbrev pub HasNoSchedule : ℕ → Type 0
  HasNoSchedule number = IsNoDrawnSchedule m plan (Two r.block) number r.times_out r.steps

  -- the run by these picks is recorded
  abbrev pub IsRunOfPicks : List Pick → RecordedAt → Type 0
  IsRunOfPicks picks = RecordsRun m plan (Two r.block) picks r.steps

  -- it is caught, and leaves no thread that could go on, if none may be left; or it is not so
  abbrev pub Tries : Bool → List Pick → Bool → Type 0
  Tries may_leave picks = IsJudged (IsRunOfPicks picks) (shows_at_rest r may_leave)

  -- the schedule of a run that is caught: the one that its number draws, or one that is made small, whose run leaves no
  -- thread that could go on either
  abbrev pub IsFoundSchedule : Bool → ℕ → List Pick → Type 0
  IsFoundSchedule false number picks = IsScheduleOfNumber number picks
  IsFoundSchedule true number picks = (drawn : RecordedAt) × IsRunOfNumber number drawn × IsLeast (Tries (leaves_running drawn.end.outcomes)) picks

  -- the lines of the pieces of the run that is caught, and which it is
  pub record IsCaughtAnswer (answer : AnswerAt) : Type 0 where
    pub number : ℕ
    pub least : IsLeastCaught Comes r.range.from r.range.count (Some number)
    pub recording : RecordingAt
    pub some : 0 < r.size
    pub few : r.size ≤ 4096
    pub key : IsKeyOf m plan number (Two r.block) recording.key
    pub is_run : IsRunOfNumber number recording.recorded
    pub text : answer.text ≡ pieces_text r.size recording
    pub told : answer.told ≡ caught_text r number (report_text recording.recorded.end)

  -- the text of the run by these picks: the schedule itself, or the lines of its pieces
  abbrev pub IsTextOf : Bool → List Pick → RecordingAt → List ℕ → Type 0
  IsTextOf true picks recording text = schedule_of text ≡ Ok picks
  IsTextOf false picks recording text = text ≡ pieces_text r.size recording

  -- the schedule of the run that is caught, or the lines of the pieces of its run, which is caught too
  pub record IsScheduleAnswer (answer : AnswerAt) : Type 0 where
    pub number : ℕ
    pub least : IsLeastCaught Comes r.range.from r.range.count (Some number)
    pub picks : List Pick
    pub found : IsFoundSchedule r.shrinks number picks
    pub recording : RecordingAt
    pub some : 0 < r.size
    pub few : r.size ≤ 4096
    pub key : IsKeyOf m plan number (Two r.block) recording.key
    pub is_run : IsRunOfPicks picks recording.recorded
    pub text : IsTextOf (prints r.form) picks recording answer.text
    pub told : answer.told ≡ caught_text r number (report_text recording.recorded.end)

  -- a run is recorded that threads made at once
  abbrev pub IsRunByThreads : RecordedAt → Type 0
  IsRunByThreads = RecordsThreads m plan (Two r.block) (λ t s. r.times_out) (min r.steps MOST_STEPS)

  -- under each number one is made, which is caught, or is not
  abbrev pub ComesByThreads : ℕ → Bool → Type 0
  ComesByThreads number = IsJudged IsRunByThreads (shows r)

  -- the first of them that is caught was recorded
  pub record IsCaughtRun (number : ℕ) (recording : RecordingAt) : Type 0 where
    pub least : IsLeastCaught ComesByThreads r.range.from r.range.count (Some number)
    pub key : IsKeyOf m plan number (Two r.block) recording.key
    pub is_run : IsRunByThreads recording.recorded
    pub caught : shows r recording.recorded.end ≡ true

  -- the lines of its pieces, and which it is
  pub record IsThreadsAnswer (answer : AnswerAt) : Type 0 where
    pub number : ℕ
    pub recording : RecordingAt
    pub found : IsCaughtRun number recording
    pub some : 0 < r.size
    pub few : r.size ≤ 4096
    pub text : answer.text ≡ pieces_text r.size recording
    pub told : answer.told ≡ caught_text r number (report_text recording.recorded.end)

  -- the line of the run of a number
  pub record IsRunLine (number : ℕ) (line : List ℕ) : Type 0 where
    pub recorded : RecordedAt
    pub is_run : IsRunOfNumber number recorded
    pub is : line ≡ run_line number recorded.end.outcomes

  -- what is written, by what is wanted, and whether a schedule is made small
  abbrev pub IsHuntedBy : HuntForm → Bool → AnswerAt → Type 0
  IsHuntedBy form.List shrinks answer = AreListed IsRunLine r.range.from r.range.count answer.text × (answer.told ≡ [])
  IsHuntedBy form.Pieces false answer = IsCaughtAnswer answer
  IsHuntedBy form.Pieces true answer = IsScheduleAnswer answer
  IsHuntedBy form.Schedule shrinks answer = IsScheduleAnswer answer

  -- what is found of the runs that numbers draw, or of runs by threads
  abbrev pub IsHunted : Bool → AnswerAt → Type 0
  IsHunted true answer = IsThreadsAnswer answer
  IsHunted false answer = IsHuntedBy r.form r.shrinks answer

  -- none of the runs is caught
  abbrev pub NoneComes : Bool → Type 0
  NoneComes true = NoneIsCaught ComesByThreads r.range.from r.range.count
  NoneComes false = (lists r.form ≡ false) × NoneIsCaught Comes r.range.from r.range.count

  -- the run that is caught has no schedule
  pub record IsTooLong : Type 0 where
    pub number : ℕ
    pub least : IsLeastCaught Comes r.range.from r.range.count (Some number)
    pub none : HasNoSchedule number

  -- there are no pieces of so many entries, no run is caught, the one that is caught has no schedule, or there is no
  -- memory for the runs or a text
  abbrev pub IsHuntRefusal : Fault → Type 0
  IsHuntRefusal (Pieces fault) = IsPiecesFault r.size fault
  IsHuntRefusal NotCaught = NoneComes r.by_threads
  IsHuntRefusal TooLong = (lists r.form ≡ false) × IsTooLong
  IsHuntRefusal NoMemory = Unit {0}
  IsHuntRefusal _ = ⊥

module _ (holds : List ℕ → List ℕ → Type 0) where
  -- the module and the plan in the files, and what is found of their runs
  pub record IsHuntAnswer (r : HuntRequest) (answer : AnswerAt) : Type 0 where
    pub m : Module
    pub plan : PlanValue
    pub has_program : IsProgram holds r.«module».now r.plan.now m plan
    pub is_hunted : IsHunted m plan r r.by_threads answer

  -- the first refusal: of the module, else of the plan, else of the size of the pieces, else of the hunt
  abbrev pub IsHuntRefused : (List ℕ → Type 0) → HuntRequest → Fault → Type 0
  IsHuntRefused fails r fault = IsProgramRefused holds fails r.«module».now r.plan.now fault
      ⊎ ((m : Module) × (plan : PlanValue) × IsProgram holds r.«module».now r.plan.now m plan × IsHuntRefusal m plan r fault)
