-- What the world of a replay shows of a run.
use Rattle.std.specs.Prelude.{List}
use Rattle.rw_objects.specs.Space.{Space}
use Rattle.rw_objects.specs.Code.{Code}
use Rattle.event_core.specs.declared.pick.Pick.{Pick}
use Rattle.event_core.specs.World.{WorldAt}
use Rattle.event_core.specs.Run.{IsRun}
use Rattle.replay_laws.specs.Log.{Log, IsBelowLog}
use Rattle.replay_laws.specs.RunLog.{run_log}
use Rattle.replay_laws.specs.Laws.{IsRight}

module _ {State Op Reply Value Fixed : Type 0} (space : Space Op Reply Value Fixed) (code : Code State Op Reply Fixed) where
  -- recorded values alone: the world is right by each run whose log this one is below
  abbrev pub ShowsRecorded : Log → WorldAt State Value Fixed → WorldAt State Value Fixed → Type 0
  ShowsRecorded log opened w = (picks : List Pick) → IsRun space code opened picks → IsBelowLog log (run_log space code opened picks)
      → ∥ IsRight space code log opened picks w ∥₁
