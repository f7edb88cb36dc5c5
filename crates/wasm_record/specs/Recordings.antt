-- Recordings of the runs of a module and a plan.
use Rattle.std.specs.Prelude.{◌≡◌, ◌<◌, ◌⊎◌, ℕ, ◌++◌, Bool, false, List, Some, length}
use Rattle.sha2.specs.Sha256.{sha256}
use Rattle.wasm_types.specs.declared.key.Profile.{Profile}
use Rattle.wasm_types.specs.declared.key.RunKey.{RunKey}
use Rattle.wasm_types.specs.declared.modules.Module.{Module}
use Rattle.block_objects.specs.SharedMemory.{shared_memory}
use Rattle.event_core.specs.declared.pick.Pick.{Pick}
use Rattle.event_core.specs.Run.{IsRun, run_end}
use Rattle.wasm_world.specs.Plans.{PlanValue}
use Rattle.thread_words.specs.ThreadCode.{ThreadAt, thread_code}
use Rattle.run_pieces.specs.Piece.{PieceValue}
use Rattle.run_pieces.specs.RunLog.{run_log}
use Rattle.recorder.specs.Picks.{picks_taken, picks_passed}
use Rattle.recorder.specs.ThreadLogAt.{RecordedAt, log_of}
use Rattle.run_pieces.specs.PieceOf.{ArePiecesOf}
use Rattle.workers.specs.Recording.{IsRecording}
use Rattle.recorder.specs.Stretch.{Stretch}
use Rattle.recorder.specs.Stretches.{picks_in}
use Rattle.recorder.specs.Printing.{are_of_threads}
use Rattle.recorder.specs.Draw.{IsDrawnWhole, IsRandomRun}
use Rattle.wasm_world.specs.Opening.{WasmWorld, opening_world_of}

-- which run, and what was recorded of it
pub record RecordingAt : Type 0 where
  pub key : RunKey
  pub recorded : RecordedAt

-- the digest is that of the module's bytes followed by the plan's (FIPS 180-4, SHA-256)
pub record IsKeyOf (m : Module) (plan : PlanValue) (run : ℕ) (profile : Profile) (key : RunKey) : Type 0 where
  pub digest : key.digest ≡ sha256 (m.source ++ plan.bytes)
  pub number : key.run ≡ run
  pub in_profile : key.profile ≡ profile

-- from the opening world the picks that are taken in turn are a run, of which the log and the end are recorded
pub record RecordsRun (m : Module) (plan : PlanValue) (profile : Profile) (picks : List Pick) (steps : ℕ) (recorded : RecordedAt) : Type 0 where
  pub world : WasmWorld
  pub opens : opening_world_of m plan profile ≡ Some world
  pub run : IsRun shared_memory thread_code world (picks_taken shared_memory thread_code steps world picks)
  pub log : log_of recorded.threads ≡ run_log shared_memory thread_code world (picks_taken shared_memory thread_code steps world picks)
  pub end : recorded.end ≡ run_end shared_memory thread_code world (picks_taken shared_memory thread_code steps world picks)
  pub passed : recorded.passed ≡ picks_passed shared_memory thread_code steps world picks

-- from the opening world some picks are a run, of which the log and the end are recorded: no thread made more than so
-- many steps, none that made fewer can go on, and a thread timed out only where it may
pub record RecordsThreads (m : Module) (plan : PlanValue) (profile : Profile) (may : ℕ → ThreadAt → Bool) (steps : ℕ) (recorded : RecordedAt) : Type 0 where
  pub world : WasmWorld
  pub opens : opening_world_of m plan profile ≡ Some world
  pub recording : IsRecording shared_memory thread_code may steps world recorded

-- from the opening world the number draws a run, of which the log and the end are recorded
pub record RecordsRandom (m : Module) (plan : PlanValue) (profile : Profile) (number : ℕ) (timeouts : Bool) (steps : ℕ) (recorded : RecordedAt) : Type 0 where
  pub world : WasmWorld
  pub opens : opening_world_of m plan profile ≡ Some world
  pub random : IsRandomRun shared_memory thread_code steps number timeouts world recorded

-- from the opening world the number draws these stretches, and each of their picks is taken in turn
pub record Draws (m : Module) (plan : PlanValue) (profile : Profile) (number : ℕ) (timeouts : Bool) (steps : ℕ) (stretches : List Stretch) : Type 0 where
  pub world : WasmWorld
  pub opens : opening_world_of m plan profile ≡ Some world
  pub drawn : IsDrawnWhole shared_memory thread_code steps number timeouts world stretches

-- the number draws these picks
abbrev pub IsDrawnSchedule : Module → PlanValue → Profile → ℕ → Bool → ℕ → List Pick → Type 0
IsDrawnSchedule m plan profile number timeouts steps picks = (stretches : List Stretch) × Draws m plan profile number timeouts steps stretches × (picks ≡ picks_in stretches)

-- a schedule of what the number draws would have too many picks, or one of a thread that it can not name
abbrev pub IsNoDrawnSchedule : Module → PlanValue → Profile → ℕ → Bool → ℕ → Type 0
IsNoDrawnSchedule m plan profile number timeouts steps = (stretches : List Stretch) × Draws m plan profile number timeouts steps stretches
    × ((1000000 < length (picks_in stretches)) ⊎ (are_of_threads (picks_in stretches) ≡ false))

-- what is recorded of the run that a number draws is what is recorded by the schedule that it draws
abbrev pub DrawnSchedulesRecord : Type 0
DrawnSchedulesRecord = (m : Module) (plan : PlanValue) (profile : Profile) (number : ℕ) (timeouts : Bool) (steps : ℕ) (picks : List Pick) (recorded : RecordedAt)
    → IsDrawnSchedule m plan profile number timeouts steps picks → RecordsRandom m plan profile number timeouts steps recorded → RecordsRun m plan profile picks steps recorded

-- a number draws one run: what is recorded of it has one log and one end
abbrev pub DrawnRunsAreOne : Type 0
DrawnRunsAreOne = (m : Module) (plan : PlanValue) (profile : Profile) (number : ℕ) (timeouts : Bool) (steps : ℕ) (one other : RecordedAt)
    → RecordsRandom m plan profile number timeouts steps one → RecordsRandom m plan profile number timeouts steps other → (log_of one.threads ≡ log_of other.threads) × (one.end ≡ other.end)

-- the picks are a run of the module and the plan, of which the log is recorded
pub record HasLogOf (m : Module) (plan : PlanValue) (profile : Profile) (world : WasmWorld) (picks : List Pick) (recorded : RecordedAt) : Type 0 where
  pub opens : opening_world_of m plan profile ≡ Some world
  pub run : IsRun shared_memory thread_code world picks
  pub log : log_of recorded.threads ≡ run_log shared_memory thread_code world picks

-- pieces of each run of which the log is recorded; and the joined log of these pieces is the run's log
abbrev pub ArePiecesOfRun : RunKey → RecordedAt → List PieceValue → Type 0
ArePiecesOfRun key recorded pieces = (m : Module) (plan : PlanValue) (profile : Profile) (world : WasmWorld) (picks : List Pick) → HasLogOf m plan profile world picks recorded
    → ArePiecesOf key (run_log shared_memory thread_code world picks) pieces
