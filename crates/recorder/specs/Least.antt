-- Schedules of which no stretch can be taken out (1-minimal: Zeller and Hildebrandt, Simplifying and isolating
-- failure-inducing input, 2002).
use Rattle.std.specs.Prelude.{◌≡◌, ◌<◌, ℕ, suc, Bool, true, false, List, ◌++◌, length, take, drop}
use Rattle.event_core.specs.declared.pick.Pick.{Pick}
use Rattle.pick_schedule.specs.declared.stretches.Stretch.{Stretch}
use Rattle.pick_schedule.specs.Printing.{AreOfThreads}
use Rattle.pick_schedule.specs.Stretches.{picks_in}

-- all stretches but one
abbrev pub without : ℕ → List Stretch → List Stretch
without at stretches = take at stretches ++ drop (suc at) stretches

module _ (Comes : List Pick → Bool → Type 0) where
  -- the run of these picks, of threads from 0 to 15, comes to what is looked for
  pub record IsFound (picks : List Pick) : Type 0 where
    pub comes : Comes picks true
    pub of_threads : AreOfThreads picks

  -- the run of these picks, as stretches, does not come to it without any one of them
  pub record NoneIsLess (picks : List Pick) : Type 0 where
    pub stretches : List Stretch
    pub are : picks_in stretches ≡ picks
    pub none : (at : ℕ) → at < length stretches → Comes (picks_in (without at stretches)) false

  -- and comes to it with them
  pub record IsLeast (picks : List Pick) : Type 0 where
    pub found : IsFound picks
    pub least : NoneIsLess picks
