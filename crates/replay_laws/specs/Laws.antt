-- What is proved of runs and their replays, of every space and machine.
use Rattle.std.specs.Prelude.{◌≡◌, ◌≢◌, ◌⊎◌, ◌↔◌, ℕ, List, length, Some, slice_get}
use Rattle.rw_objects.specs.Space.{Space}
use Rattle.rw_objects.specs.Code.{Code}
use Rattle.event_core.specs.declared.pick.Pick.{Pick}
use Rattle.event_core.specs.declared.pick.Input.{Input}
use Rattle.event_core.specs.Threads.{ThreadAt}
use Rattle.event_core.specs.World.{WorldAt}
use Rattle.event_core.specs.Opening.{IsOpeningWorld}
use Rattle.event_core.specs.Run.{world_run, IsRun, run_end}
use Rattle.replay_laws.specs.Log.{Log, IsBelowLog, IsCompleteLog, HasLimits}
use Rattle.replay_laws.specs.RunLog.{run_log}
use Rattle.replay_laws.specs.Gates.{LetsPass, IsGatedRun, IsFinished}
use Rattle.replay_laws.specs.Recorded.{IsRecordedValue, IsRecordedThread}
use Rattle.replay_laws.specs.declared.turn.Turn.TheVariants.{Refused}
use Rattle.replay_laws.specs.declared.turn.Refusal.TheVariants.{Missing, Clash, Diverged}
use Rattle.replay_laws.specs.Turns.{pick_of, turn_of, input_of_turn}
use Rattle.replay_laws.specs.Ordered.{ordered_world, ordered_picks}

module _ {State Op Reply Value Fixed : Type 0} (space : Space Op Reply Value Fixed) (code : Code State Op Reply Fixed) where
  -- a run from an opening world
  pub record IsWholeRun (w : WorldAt State Value Fixed) (ps : List Pick) : Type 0 where
    pub opening : IsOpeningWorld code w
    pub run : IsRun space code w ps

  -- an object has one value at each of its versions
  abbrev pub OneRecordedValue : Type 0
  OneRecordedValue = (w : WorldAt State Value Fixed) (ps : List Pick) → IsWholeRun w ps
      → (o v : ℕ) (x y : Value) → IsRecordedValue space code w ps o v x → IsRecordedValue space code w ps o v y → x ≡ y

  -- the log of a run is complete
  abbrev pub RunLogsAreComplete : Type 0
  RunLogsAreComplete = (w : WorldAt State Value Fixed) (ps : List Pick) → IsWholeRun w ps → IsCompleteLog (length w.threads) (run_log space code w ps)

  -- a complete log that knows no more than the log of a run is that log
  abbrev pub CompleteLogsAreRunLogs : Type 0
  CompleteLogsAreRunLogs = (w : WorldAt State Value Fixed) (ps : List Pick) → IsWholeRun w ps
      → (log : Log) → IsBelowLog log (run_log space code w ps) → IsCompleteLog (length w.threads) log → log ≡ run_log space code w ps

  -- the log of a run lets that very run pass, up to its end
  pub record IsReplayed (w : WorldAt State Value Fixed) (ps : List Pick) : Type 0 where
    pub gated : IsGatedRun space code (run_log space code w ps) w ps
    pub finished : IsFinished code (run_log space code w ps) (world_run space code w ps)

  abbrev pub RunsReplay : Type 0
  RunsReplay = (w : WorldAt State Value Fixed) (ps : List Pick) → IsWholeRun w ps → IsReplayed w ps

  -- a turn makes a step exactly where the log lets that step pass
  abbrev pub TurnsAreGatedSteps : Type 0
  TurnsAreGatedSteps = (log : Log) → HasLimits log → (w : WorldAt State Value Fixed) (t : ℕ) (input : Input)
      → (input_of_turn (turn_of space code log w t) ≡ Some input) ↔ LetsPass space code log w (pick_of t input)

  -- the turns of an order are a gated run
  pub record IsOrderedRun (log : Log) (w : WorldAt State Value Fixed) (order : List ℕ) (k : ℕ) : Type 0 where
    pub gated : IsGatedRun space code log w (ordered_picks space code log w order k)
    pub world : ordered_world space code log w order k ≡ world_run space code w (ordered_picks space code log w order k)

  abbrev pub OrderedRunsAreGated : Type 0
  OrderedRunsAreGated = (log : Log) → HasLimits log → (w : WorldAt State Value Fixed) (order : List ℕ) (k : ℕ) → IsOrderedRun log w order k

  -- a world of a replay is right: every value and every thread is as it was recorded, and no turn answers that the log
  -- clashes or that the thread can't do what it says
  pub record IsRight (log : Log) (w : WorldAt State Value Fixed) (ps : List Pick) (g : WorldAt State Value Fixed) : Type 0 where
    pub values : (o : ℕ) → IsRecordedValue space code w ps o (g.memory.counts o).version (g.memory.values o)
    pub threads : (t : ℕ) (thread : ThreadAt State) → slice_get g.threads t ≡ Some thread → IsRecordedThread space code w ps t thread
    pub no_clash : (t : ℕ) → turn_of space code log g t ≢ Refused Clash
    pub no_divergence : (t : ℕ) → turn_of space code log g t ≢ Refused Diverged

  -- no wrong value on the way: at every point of every gated run of a log below that of a run
  abbrev pub ReplaysAreRight : Type 0
  ReplaysAreRight = (w : WorldAt State Value Fixed) (ps : List Pick) → IsWholeRun w ps
      → (log : Log) → IsBelowLog log (run_log space code w ps)
      → (gs : List Pick) → IsGatedRun space code log w gs → IsRight log w ps (world_run space code w gs)

  -- a world of a replay is free: it is finished, or the log lets some step pass, and no turn is refused but by a shut
  -- gate
  pub record IsFree (log : Log) (g : WorldAt State Value Fixed) : Type 0 where
    pub goes_on : IsFinished code log g ⊎ ((p : Pick) × LetsPass space code log g p)
    pub no_missing : (t : ℕ) → turn_of space code log g t ≢ Refused Missing
    pub no_clash : (t : ℕ) → turn_of space code log g t ≢ Refused Clash
    pub no_divergence : (t : ℕ) → turn_of space code log g t ≢ Refused Diverged

  -- no gate shuts for good: at every point of every gated run of the complete log of a run
  abbrev pub CompleteReplaysAreFree : Type 0
  CompleteReplaysAreFree = (w : WorldAt State Value Fixed) (ps : List Pick) → IsWholeRun w ps
      → (gs : List Pick) → IsGatedRun space code (run_log space code w ps) w gs → IsFree (run_log space code w ps) (world_run space code w gs)

  -- a finished replay is a run whose log is below the one that it followed, and where that is complete the two are
  -- equal
  pub record IsVouched (log : Log) (w : WorldAt State Value Fixed) (gs : List Pick) : Type 0 where
    pub run : IsRun space code w gs
    pub below : IsBelowLog (run_log space code w gs) log
    pub same : IsCompleteLog (length w.threads) log → run_log space code w gs ≡ log

  abbrev pub FinishedReplaysVouch : Type 0
  FinishedReplaysVouch = (w : WorldAt State Value Fixed) → IsOpeningWorld code w
      → (log : Log) (gs : List Pick) → IsGatedRun space code log w gs → IsFinished code log (world_run space code w gs) → IsVouched log w gs

  -- every finished replay of a log below that of a run has the run's memory, results and traps
  abbrev pub FinishedReplaysEndAlike : Type 0
  FinishedReplaysEndAlike = (w : WorldAt State Value Fixed) (ps : List Pick) → IsWholeRun w ps
      → (log : Log) → IsBelowLog log (run_log space code w ps)
      → (gs : List Pick) → IsGatedRun space code log w gs → IsFinished code log (world_run space code w gs)
      → run_end space code w gs ≡ run_end space code w ps
