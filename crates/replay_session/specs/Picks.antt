-- Picks by which a run goes a way.
use Rattle.std.specs.Prelude.{◌≡◌, ℕ, List, ◌++◌, length, Option, Some, None}
use Rattle.rw_objects.specs.Space.{Space}
use Rattle.rw_objects.specs.Code.{Code}
use Rattle.rw_objects.specs.declared.entry.Entry.{Entry}
use Rattle.event_core.specs.declared.pick.Pick.{Pick}
use Rattle.event_core.specs.declared.pick.Input.{Input}
use Rattle.event_core.specs.declared.pick.Input.TheVariants.{Go}
use Rattle.event_core.specs.Run.{world_run}
use Rattle.event_core.specs.World.{WorldAt}
use Rattle.log_pieces.specs.declared.flat.Flat.{Flat}
use Rattle.log_pieces.specs.declared.flat.Flat.TheVariants as flat
use Rattle.pick_schedule.specs.Printing.{AreOfThreads}
use Rattle.replay_laws.specs.Gates.{IsGatedRun}
use Rattle.replay_laws.specs.Log.{Log}
use Rattle.replay_laws.specs.Turns.{input_for}

-- how a thread is picked for an event of which the log has this
abbrev pub input_by : Option (Flat Entry) → Input
input_by (Some (flat.Known item)) = input_for item.kind
input_by (Some flat.Clash) = Go
input_by None = Go

module _ {State Op Reply Value Fixed : Type 0} (space : Space Op Reply Value Fixed) (code : Code State Op Reply Fixed) (log : Log) where
  -- a gated run by these picks, n of them, leads from one world to another
  pub record PicksLead (n : ℕ) (picks : List Pick) (w v : WorldAt State Value Fixed) : Type 0 where
    pub count : length picks ≡ n
    pub gated : IsGatedRun space code log w picks
    pub leads : world_run space code w picks ≡ v

  -- such picks, of threads that a schedule can name, were put behind others
  pub record ArePut (n : ℕ) (before after : List Pick) (w v : WorldAt State Value Fixed) : Type 0 where
    pub picks : List Pick
    pub put : after ≡ before ++ picks
    pub of_threads : AreOfThreads picks
    pub lead : PicksLead n picks w v
