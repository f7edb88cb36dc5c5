-- What a recording notes of picks.
use Rattle.std.specs.Prelude.{◌≡◌, ◌≢◌, ◌+◌, ◌<◌, ◌==◌, ◌++◌, length, ℕ, cond, List, [], ◌∷◌, Option, Some, None, slice_index_or}
use Rattle.rw_objects.specs.Code.{Code}
use Rattle.rw_objects.specs.Space.{Space}
use Rattle.rw_objects.specs.declared.entry.Entry.{Entry}
use Rattle.event_core.specs.declared.pick.Pick.{Pick}
use Rattle.event_core.specs.declared.step.Stepped.{Stepped}
use Rattle.event_core.specs.declared.step.Stepped.TheVariants as stepped
use Rattle.event_core.specs.Run.{entries, world_run}
use Rattle.event_core.specs.World.{WorldAt}
use Rattle.recorder.specs.Picks.{picks_taken, picks_passed}

-- the list of a thread
abbrev pub list_at : List (List Entry) → ℕ → List Entry
list_at lists t = slice_index_or lists t []

-- what a step of thread by adds to the log of thread t
abbrev pub entries_added : ℕ → ℕ → Option Stepped → List Entry
entries_added by t None = []
entries_added by t (Some stepped.Local) = []
entries_added by t (Some (stepped.Event e)) = cond (by == t) (e ∷ []) []

-- the step of a pick of thread by was noted
pub record IsNoted (lists news : List (List Entry)) (by : ℕ) (o : Option Stepped) : Type 0 where
  pub logs : (t : ℕ) → t < length lists → list_at news t ≡ list_at lists t ++ entries_added by t o
  pub len : length news ≡ length lists

-- the lists of the other threads stay
pub record OthersStay (t : ℕ) (lists news : List (List Entry)) : Type 0 where
  pub same : (u : ℕ) → u ≢ t → list_at news u ≡ list_at lists u
  pub len : length news ≡ length lists

module _ {State Op Reply Value Fixed : Type 0} (space : Space Op Reply Value Fixed) (code : Code State Op Reply Fixed) (steps : ℕ) where
  -- picks were tried in turn: those that are taken lead from one world to the other, their entries stand behind those
  -- of each thread, and the others were counted
  pub record AreRecorded (ps : List Pick) (w v : WorldAt State Value Fixed) (lists news : List (List Entry)) (before after : ℕ) : Type 0 where
    pub world : v ≡ world_run space code w (picks_taken space code steps w ps)
    pub logs : (t : ℕ) → t < length lists → list_at news t ≡ list_at lists t ++ entries space code w (picks_taken space code steps w ps) t
    pub passed : after ≡ before + picks_passed space code steps w ps
    pub len : length news ≡ length lists
