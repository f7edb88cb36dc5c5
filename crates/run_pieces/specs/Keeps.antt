-- Recorded runs of which each part is a piece.
use Rattle.std.specs.Prelude.{◌≡◌, ℕ, ◌<◌, ◌≤◌, true, List, length, Some, slice_get}
use Rattle.std.specs.List.{list_all}
use Rattle.wasm_types.specs.declared.sizes.TheConstants.{MOST_STEPS, MOST_THREADS}
use Rattle.wasm_types.specs.declared.key.Profile.{Profile}
use Rattle.wasm_types.specs.declared.key.RunKey.{RunKey}
use Rattle.log_pieces.specs.Piece.{greatest_object, is_entry}
use Rattle.recorder.specs.ThreadLogAt.{ThreadLogAt}

-- a thread has as many places as entries, no more than steps, of which there are at most 1,000,000,000; and each entry
-- has one to three touches, of rising objects of the profile
pub record KeepsThread (profile : Profile) (log : ThreadLogAt) : Type 0 where
  pub places : log.end.places ≡ length log.entries
  pub steps : log.end.places ≤ log.end.steps
  pub limit : log.end.steps ≤ MOST_STEPS
  pub entries : list_all (is_entry (greatest_object profile)) log.entries ≡ true

-- there are at most 16 threads, and each keeps its rules
pub record KeepsRules (key : RunKey) (threads : List ThreadLogAt) : Type 0 where
  pub few : length threads ≤ MOST_THREADS
  pub each : (t : ℕ) (log : ThreadLogAt) → slice_get threads t ≡ Some log → KeepsThread key.profile log

-- such a thread, of a number below 16, and pieces of a size that can be
pub record IsCut (key : RunKey) (thread : ℕ) (log : ThreadLogAt) (size : ℕ) : Type 0 where
  pub numbered : thread ≤ 15
  pub keeps : KeepsThread key.profile log
  pub some : 0 < size
  pub few : size ≤ 4096
