-- Picks, as stretches of equal ones.
use Rattle.std.specs.Prelude.{◌≡◌, ◌≤◌, ℕ, List, length, replicate}
use Rattle.std.specs.List.{flat_map}
use Rattle.event_core.specs.declared.pick.Pick.{Pick}
use Rattle.pick_schedule.specs.declared.stretches.Stretch.{Stretch}

-- the picks of a stretch
abbrev pub picks_of : Stretch → List Pick
picks_of stretch = replicate stretch.times stretch.pick

-- the picks of stretches, one behind the other
abbrev pub picks_in : List Stretch → List Pick
picks_in stretches = flat_map picks_of stretches

-- how many picks there are, at most 1,000,000
pub record AreCounted (many : ℕ) (stretches : List Stretch) : Type 0 where
  pub len : many ≡ length (picks_in stretches)
  pub few : length (picks_in stretches) ≤ 1000000
