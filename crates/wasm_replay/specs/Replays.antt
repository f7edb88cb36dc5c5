-- Replays of gathered logs: the ordered replay from the opening world of a module and a plan.
use Rattle.std.specs.Prelude.{◌≡◌, ◌≤◌, ℕ, ◌⊎◌, Bool, true, false, List, [], ◌++◌, Option, Some, None}
use Rattle.std.specs.Str.{bytes_eq}
use Rattle.sha2.specs.Sha256.{sha256}
use Rattle.wasm_types.specs.declared.key.Profile.{Profile}
use Rattle.wasm_types.specs.declared.key.RunKey.{RunKey}
use Rattle.wasm_types.specs.declared.modules.Module.{Module}
use Rattle.wasm_world.specs.SharedMemory.{shared_memory}
use Rattle.event_core.specs.declared.pick.Pick.{Pick}
use Rattle.event_core.specs.End.{RunEnd}
use Rattle.event_core.specs.Run.{IsRun, run_end}
use Rattle.wasm_world.specs.Valid.{fits_profile}
use Rattle.wasm_world.specs.Plans.{PlanValue, IsPlanOf}
use Rattle.wasm_types.specs.Memories.{block_power}
use Rattle.wasm_world.specs.ThreadCode.{thread_code}
use Rattle.replica.specs.declared.log.Log.{Log as GatheredLog}
use Rattle.replica.specs.Log.{key_of}
use Rattle.replay_laws.specs.Log.{IsBelowLog}
use Rattle.replay_laws.specs.RunLog.{run_log}
use Rattle.replay_laws.specs.Finishing.{OrderedEnds}
use Rattle.replay_gate.specs.Answers.{IsOrderedFault, IsVouchedEnd, IsWantOfMemory}
use Rattle.replay_gate.specs.declared.answers.ReplayFault.{ReplayFault}
use Rattle.replay_gate.specs.declared.answers.ReplayFault.TheVariants as fault
pub use Rattle.run_pieces.specs.Joined.{gathered_log}
use Rattle.wasm_replay.specs.declared.opener.Opener.{Opener}
use Rattle.wasm_replay.specs.declared.replaying.WasmReplayFault.{WasmReplayFault}
use Rattle.wasm_replay.specs.declared.replaying.WasmReplayFault.TheVariants as refusal
use Rattle.wasm_world.specs.Opening.{WasmWorld, opening_memory, opening_world_of}

-- the opening world; without one, a world of no threads
abbrev pub world_or_empty : Module → Profile → Option WasmWorld → WasmWorld
world_or_empty m profile None = record { threads = []; memory = opening_memory m profile }
world_or_empty m profile (Some w) = w

abbrev pub opened_world : Module → PlanValue → Profile → WasmWorld
opened_world m plan profile = world_or_empty m profile (opening_world_of m plan profile)

-- a plan of the module, and a profile that its runs can be of
pub record Suits (m : Module) (plan : PlanValue) (profile : Profile) : Type 0 where
  pub plan_of : IsPlanOf m plan
  pub fits : fits_profile m profile ≡ true
  pub block : block_power profile ≤ 12

-- the log is of a run of this module and plan
abbrev pub is_of : Module → PlanValue → RunKey → Bool
is_of m plan key = bytes_eq (sha256 (m.source ++ plan.bytes)) key.digest

module _ (m : Module) (plan : PlanValue) (log : GatheredLog) where
  -- the log can be of a run of this module and plan
  pub record IsOfRun : Type 0 where
    pub is_of : is_of m plan (key_of log) ≡ true
    pub fits : fits_profile m (key_of log).profile ≡ true

  -- it can't: another run goes before an old profile
  abbrev pub IsOfNoRun : WasmReplayFault → Type 0
  IsOfNoRun refusal.OtherRun = is_of m plan (key_of log) ≡ false
  IsOfNoRun refusal.OldProfile = (is_of m plan (key_of log) ≡ true) × (fits_profile m (key_of log).profile ≡ false)
  IsOfNoRun (refusal.Replay f) = ⊥

  -- or there is no memory for the opening world
  abbrev pub IsNotOpened : WasmReplayFault → Type 0
  IsNotOpened refusal.OtherRun = IsOfNoRun refusal.OtherRun
  IsNotOpened refusal.OldProfile = IsOfNoRun refusal.OldProfile
  IsNotOpened (refusal.Replay f) = IsOfRun × (f ≡ fault.NoMemory)

  -- what opens the world of the log's runs
  pub record IsOpenerOf (o : Opener) : Type 0 where
    pub «module» : o.valid.now ≡ m
    pub plan_is : o.plan.now ≡ plan
    pub profile : o.profile ≡ (key_of log).profile
    pub suits : Suits m plan (key_of log).profile

  -- the world from which the log's run began
  abbrev pub Opens : WasmWorld → Type 0
  Opens w = opening_world_of m plan (key_of log).profile ≡ Some w

  -- there is such a world
  abbrev pub HasWorld : Type 0
  HasWorld = (w : WasmWorld) × Opens w

  -- the end of the ordered replay from the opening world
  abbrev pub IsOrderedAnswer : List ℕ → RunEnd → Type 0
  IsOrderedAnswer order end = (w : WasmWorld) → Opens w → OrderedEnds shared_memory thread_code (gathered_log log) w order end

  -- the end of each run of the module and plan whose log this one is below; and there is a run whose log is below this
  -- one
  pub record EndsAsRecorded (end : RunEnd) : Type 0 where
    pub recorded : (w : WasmWorld) → Opens w → (picks : List Pick) → IsRun shared_memory thread_code w picks → IsBelowLog (gathered_log log) (run_log shared_memory thread_code w picks)
        → end ≡ run_end shared_memory thread_code w picks
    pub vouches : (w : WasmWorld) → Opens w → IsVouchedEnd shared_memory thread_code (gathered_log log) w end

  -- the fault of the ordered replay from the opening world, or want of memory; want of memory alone where some gated
  -- run comes to the log's ends
  pub record IsReplayFault (order : List ℕ) (f : ReplayFault) : Type 0 where
    pub ordered : (w : WasmWorld) → Opens w → (f ≡ fault.NoMemory) ⊎ IsOrderedFault shared_memory thread_code (gathered_log log) w order f
    pub wanting : (w : WasmWorld) → Opens w → IsWantOfMemory shared_memory thread_code (gathered_log log) w f

  -- the log is of no run of this module and plan, or its replay is refused
  abbrev pub IsRefusal : List ℕ → WasmReplayFault → Type 0
  IsRefusal order refusal.OtherRun = IsOfNoRun refusal.OtherRun
  IsRefusal order refusal.OldProfile = IsOfNoRun refusal.OldProfile
  IsRefusal order (refusal.Replay f) = IsOfRun × IsReplayFault order f
