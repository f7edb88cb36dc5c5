-- What a recording by threads is.
use Rattle.std.specs.Prelude.{◌≡◌, ◌≤◌, ℕ, ◌++◌, Bool, List, length, map}
use Rattle.wasm_types.specs.declared.sizes.TheConstants.{MOST_THREADS}
use Rattle.rw_objects.specs.declared.entry.Entry.{Entry}
use Rattle.rw_objects.specs.Space.{Space}
use Rattle.rw_objects.specs.Code.{Code}
use Rattle.rw_objects.specs.Counts.{no_counts}
use Rattle.rw_objects.specs.Memory.{Memory, memory_with}
use Rattle.event_core.specs.declared.pick.Pick.{Pick}
use Rattle.event_core.specs.Opening.{AllFresh, opening_world}
use Rattle.event_core.specs.World.{WorldAt}
use Rattle.event_core.specs.End.{RunEnd}
use Rattle.event_core.specs.Run.{world_run, IsRun, run_end}
use Rattle.replay_laws.specs.Log.{Log}
use Rattle.replay_laws.specs.RunLog.{run_log}
use Rattle.replay_laws.specs.History.{Call, IsLegalHistory, RunTimesOut, calls_of_run}
use Rattle.recorder.specs.Rounds.{AllGo, StepsWithin, NoneGoes}
use Rattle.recorder.specs.ThreadLogAt.{RecordedAt, log_of}
use Rattle.workers.specs.Ran.{AreRun}
use Rattle.workers.specs.declared.worker.Worker.{Worker}
use Rattle.workers.specs.Driving.{all_asked}
use Rattle.workers.specs.Work.{HasWorked, opening_worker}

-- a run, with its log and its end: first the calls of a legal history, in its order, with the local steps of their
-- threads, then rounds in which no thread times out. No thread made more than so many steps, none that made fewer can
-- go on, and a thread timed out only where it may; no pick was passed over
pub record IsRecording {State Op Reply Value Fixed : Type 0} (space : Space Op Reply Value Fixed) (code : Code State Op Reply Fixed) (may : ℕ → State → Bool) (steps : ℕ) (w : WorldAt State Value Fixed) (recorded : RecordedAt) : Type 0 where
  pub calls : List (Call Op Reply)
  pub legal : IsLegalHistory space w.memory calls
  pub worked : List Pick
  pub order : calls_of_run space code w worked ≡ calls
  pub rounds : List Pick
  pub rounds_go : AllGo rounds
  pub picks : List Pick
  pub whole : picks ≡ worked ++ rounds
  pub run : IsRun space code w picks
  pub times : RunTimesOut space code may w picks
  pub log : log_of recorded.threads ≡ run_log space code w picks
  pub end : recorded.end ≡ run_end space code w picks
  pub within : StepsWithin space code steps (world_run space code w picks)
  pub none_goes : NoneGoes space code steps (world_run space code w picks)
  pub passed : recorded.passed ≡ 0

-- a recording whose first calls are these, in this order
pub record IsRecordingOf {State Op Reply Value Fixed : Type 0} (space : Space Op Reply Value Fixed) (code : Code State Op Reply Fixed) (may : ℕ → State → Bool) (steps : ℕ) (w : WorldAt State Value Fixed) (calls : List (Call Op Reply)) (recorded : RecordedAt) : Type 0 where
  pub recording : IsRecording space code may steps w recorded
  pub same : recording.calls ≡ calls

-- machines that made no step, each driven by a worker over a space that no thread had touched, left this history and
-- these workers
pub record HaveRun {M State Op Reply Value Fixed : Type 0} (space : Space Op Reply Value Fixed) (code : Code State Op Reply Fixed) (state : M → State) (steps : ℕ)
    (order : List ℕ) (entries : List (List Entry)) (memory : Memory Value Fixed) (workers : List (Worker M)) : Type 0 where
  pub machines : List M
  pub may : ℕ → State → Bool
  pub fixed : Fixed
  pub values : ℕ → Value
  pub few : length machines ≤ MOST_THREADS
  pub fresh : AllFresh code state fixed machines
  pub ran : AreRun space (HasWorked code state may) (memory_with fixed values no_counts) (map (opening_worker steps) machines) order entries memory workers

-- what they did is recorded, in the order of their history, and then what was left
abbrev pub IsRecordingFrom : {M State Op Reply Value Fixed : Type 0} (space : Space Op Reply Value Fixed) (code : Code State Op Reply Fixed) (state : M → State) (steps : ℕ)
    {order : List ℕ} {entries : List (List Entry)} {memory : Memory Value Fixed} {workers : List (Worker M)} → HaveRun space code state steps order entries memory workers → RecordedAt → Type 0
IsRecordingFrom space code state steps h recorded = IsRecordingOf space code h.may steps (opening_world state h.fixed h.values h.machines) (all_asked h.ran.calls) recorded
