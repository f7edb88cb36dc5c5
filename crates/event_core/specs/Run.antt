-- Runs, the entries that they log, and their ends.
use Rattle.std.specs.Prelude.{◌≡◌, ℕ, ◌==◌, true, cond, List, [], ◌∷◌, ◌++◌, length, map, Some, slice_get}
use Rattle.rw_objects.specs.Code.{Code}
use Rattle.rw_objects.specs.Space.{Space}
use Rattle.rw_objects.specs.Memory.{Memory, entry_of}
use Rattle.rw_objects.specs.declared.entry.Entry.{Entry}
use Rattle.event_core.specs.declared.pick.Pick.{Pick}
use Rattle.event_core.specs.declared.step.PickStep.{PickStep}
use Rattle.event_core.specs.declared.step.PickStep.TheVariants as step
use Rattle.event_core.specs.Threads.{ThreadAt}
use Rattle.event_core.specs.PickStep.{is_enabled}
use Rattle.event_core.specs.World.{WorldAt, step_of_pick, world_after}
use Rattle.event_core.specs.Opening.{IsOpeningWorld}
use Rattle.event_core.specs.End.{RunEnd, outcome_of}

module _ {Op Reply Value Fixed : Type 0} (space : Space Op Reply Value Fixed) where
  -- what thread t logs of a step of thread by
  abbrev pub entries_of_step : Memory Value Fixed → ℕ → ℕ → PickStep Op → List Entry
  entries_of_step m by t (step.Refused f) = []
  entries_of_step m by t step.Local = []
  entries_of_step m by t (step.Event op) = cond (by == t) (entry_of space m op ∷ []) []

module _ {State Op Reply Value Fixed : Type 0} (space : Space Op Reply Value Fixed) (code : Code State Op Reply Fixed) where
  -- the world after these picks
  abbrev pub world_run : WorldAt State Value Fixed → List Pick → WorldAt State Value Fixed
  world_run w [] = w
  world_run w (p ∷ ps) = world_run (world_after space code w p) ps

  -- a run: each pick is enabled in turn
  abbrev pub IsRun : WorldAt State Value Fixed → List Pick → Type 0
  IsRun w [] = Unit {0}
  IsRun w (p ∷ ps) = (is_enabled (step_of_pick space code w p) ≡ true) × IsRun (world_after space code w p) ps

  -- the entries of thread t in a run, in their order
  abbrev pub entries : WorldAt State Value Fixed → List Pick → ℕ → List Entry
  entries w [] t = []
  entries w (p ∷ ps) t = entries_of_step space w.memory p.thread t (step_of_pick space code w p) ++ entries (world_after space code w p) ps t

  -- the end of a run that led to this world
  abbrev pub end_of_world : WorldAt State Value Fixed → RunEnd
  end_of_world w = record { memory = space.image w.memory.fixed w.memory.values; outcomes = map (λ t. outcome_of (code.next t.state)) w.threads }

  -- the end of a run
  abbrev pub run_end : WorldAt State Value Fixed → List Pick → RunEnd
  run_end w ps = end_of_world (world_run w ps)

  -- each thread has made as many events as it logged entries
  abbrev pub PlacesCountEntries : Type 0
  PlacesCountEntries = (w : WorldAt State Value Fixed) → IsOpeningWorld code w → (ps : List Pick)
      → (t : ℕ) (thread : ThreadAt State) → slice_get (world_run w ps).threads t ≡ Some thread → thread.places ≡ length (entries w ps t)
