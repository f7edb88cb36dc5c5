-- The plans and logs in files.
use Rattle.std.specs.Prelude.{◌≡◌, ◌⊎◌, ◌<◌, ℕ, List, [], ◌++◌, Ok, length}
use Rattle.wasm_types.specs.declared.modules.Module.{Module}
use Rattle.wasm_types.specs.declared.key.Profile.TheVariants.{Two}
use Rattle.thread_plan.specs.Plans.{PlanValue, plan_of}
use Rattle.thread_plan.specs.Refusals.{IsFaultOf}
use Rattle.replica.specs.Piece.{PieceValue}
use Rattle.replica.specs.declared.log.Log.{Log}
use Rattle.replica.specs.declared.fault.GatherFault.{GatherFault}
use Rattle.replica.specs.declared.fault.GatherFault.TheVariants as gathering
use Rattle.replica.specs.Log.{key_of}
use Rattle.replica.specs.LogOf.{IsLogOf, Among}
use Rattle.replica.specs.Gathered.{IsText, IsGathered, IsBadLine, IsOtherRun}
use Rattle.wasm_record.specs.Recordings.{IsKeyOf}
use Rattle.commands.specs.Files.{IsFileFault}
use Rattle.commands.specs.declared.files.FileFault.TheVariants.{NotRead}
use Rattle.commands.specs.declared.files.InputFile.TheVariants as input
use Rattle.commands.specs.Checks.{IsValidFile, IsModuleRefused}
use Rattle.commands.specs.declared.fault.Fault.{Fault}
use Rattle.commands.specs.declared.fault.Fault.TheVariants.{File, Plan, Gather}

-- the text is the lines of some pieces of one run, and this is the log of these pieces
pub record IsLogOfLines (text : List ℕ) (log : Log) : Type 0 where
  pub pieces : List PieceValue
  pub lines : IsText text pieces
  pub some : 0 < length pieces
  pub gathered : IsGathered pieces log

-- no piece, of run 0 of the module and the plan in profile 2 with blocks of 64 bytes
pub record IsEmptyLog (m : Module) (plan : PlanValue) (log : Log) : Type 0 where
  pub key : IsKeyOf m plan 0 (Two 6) (key_of log)
  pub items : IsLogOf (Among []) log

-- the log that a text gives for a module and a plan
abbrev pub IsLogIn : List ℕ → Module → PlanValue → Log → Type 0
IsLogIn text m plan log = IsLogOfLines text log ⊎ ((text ≡ []) × IsEmptyLog m plan log)

-- which line is refused, and why; what stands behind it is not judged
abbrev pub IsLinesFault : List ℕ → GatherFault → Type 0
IsLinesFault text (gathering.OtherRun line own first) = (read rest : List ℕ) × (text ≡ read ++ rest) × IsOtherRun read line own first
IsLinesFault text gathering.NoMemory = Unit {0}
IsLinesFault text (gathering.BadLine line reason) = (read rest : List ℕ) × (text ≡ read ++ rest) × IsBadLine (rest ≡ []) read line
IsLinesFault text gathering.SourceFailed = ⊥
IsLinesFault text gathering.SinkFailed = ⊥

-- the program's fault where the lines of a file are refused: a file of which a read failed is not read
abbrev pub lines_fault : GatherFault → Fault
lines_fault gathering.SourceFailed = File NotRead input.Pieces
lines_fault fault = Gather fault

module _ (holds : List ℕ → Type 0) where
  -- the plan that the file spells for a module
  abbrev pub IsPlanFile : Module → PlanValue → Type 0
  IsPlanFile m plan = (bytes : List ℕ) × holds bytes × (plan_of m bytes ≡ Ok plan)

  abbrev pub IsPlanRefused : Type 0 → Module → Fault → Type 0
  IsPlanRefused fails m (File fault of) = (of ≡ input.Plan) × IsFileFault fails fault
  IsPlanRefused fails m (Plan fault quote) = (bytes : List ℕ) × holds bytes × IsFaultOf (plan_of m bytes) fault
  IsPlanRefused fails m _ = ⊥

  -- the log that the file gives for a module and a plan
  abbrev pub IsLogFile : Module → PlanValue → Log → Type 0
  IsLogFile m plan log = (bytes : List ℕ) × holds bytes × IsLogIn bytes m plan log

  abbrev pub IsLinesRefused : Type 0 → Fault → Type 0
  IsLinesRefused fails (File fault of) = (of ≡ input.Pieces) × IsFileFault fails fault
  IsLinesRefused fails (Gather fault) = (bytes : List ℕ) × holds bytes × IsLinesFault bytes fault
  IsLinesRefused fails _ = ⊥

module _ (holds : List ℕ → List ℕ → Type 0) where
  -- the module in one file, and the plan for it in another
  pub record IsProgram (module_path plan_path : List ℕ) (m : Module) (plan : PlanValue) : Type 0 where
    pub has_module : IsValidFile (holds module_path) m
    pub has_plan : IsPlanFile (holds plan_path) m plan

  -- the first refusal: of the module, else of the plan
  abbrev pub IsProgramRefused : (List ℕ → Type 0) → List ℕ → List ℕ → Fault → Type 0
  IsProgramRefused fails module_path plan_path fault = IsModuleRefused (holds module_path) (fails module_path) fault
      ⊎ ((m : Module) × IsValidFile (holds module_path) m × IsPlanRefused (holds plan_path) (fails plan_path) m fault)
