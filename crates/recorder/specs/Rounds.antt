-- Steps of all threads, one after the other, until none can go on.
use Rattle.std.specs.Prelude.{◌≡◌, ℕ, ◌<◌, ◌≤◌, false, List, [], ◌∷◌, ◌++◌, length, map, Some, slice_get}
use Rattle.rw_objects.specs.declared.entry.Entry.{Entry}
use Rattle.rw_objects.specs.Space.{Space}
use Rattle.rw_objects.specs.Code.{Code}
use Rattle.event_core.specs.declared.pick.Pick.{Pick}
use Rattle.event_core.specs.declared.pick.Input.TheVariants.{Go}
use Rattle.event_core.specs.Threads.{ThreadAt}
use Rattle.event_core.specs.World.{WorldAt}
use Rattle.event_core.specs.Run.{world_run, IsRun, entries, end_of_world}
use Rattle.replay_laws.specs.RunLog.{end_of_thread}
use Rattle.replay_laws.specs.Turns.{pick_of}
use Rattle.recorder.specs.Picks.{is_taken}
use Rattle.recorder.specs.Recorded.{list_at}
use Rattle.recorder.specs.ThreadLogAt.{RecordedAt}

-- no pick is a time-out
abbrev pub AllGo : List Pick → Type 0
AllGo [] = Unit {0}
AllGo (p ∷ ps) = (p.input ≡ Go) × AllGo ps

module _ {State Op Reply Value Fixed : Type 0} (space : Space Op Reply Value Fixed) (code : Code State Op Reply Fixed) where
  -- no thread has made more steps
  abbrev pub StepsWithin : ℕ → WorldAt State Value Fixed → Type 0
  StepsWithin steps w = (t : ℕ) (thread : ThreadAt State) → slice_get w.threads t ≡ Some thread → code.steps thread.state ≤ steps

  -- no thread that made fewer steps can go on
  abbrev pub NoneGoes : ℕ → WorldAt State Value Fixed → Type 0
  NoneGoes steps w = (t : ℕ) → is_taken space code steps w (pick_of t Go) ≡ false

  -- steps of threads that made fewer, none of them a time-out, lead from one world to another, and their entries stand
  -- behind those of each thread
  pub record GoesBy (steps : ℕ) (w u : WorldAt State Value Fixed) (before after : List (List Entry)) : Type 0 where
    pub picks : List Pick
    pub run : IsRun space code w picks
    pub world : world_run space code w picks ≡ u
    pub all_go : AllGo picks
    pub within : StepsWithin steps w → StepsWithin steps u
    pub logged : (t : ℕ) → t < length w.threads → list_at after t ≡ list_at before t ++ entries space code w picks t
    pub lists : length after ≡ length u.threads
    pub size : length u.threads ≡ length w.threads

  -- threads whose entries were these went on from a world until none could, and what they logged then, and the end, are
  -- recorded; no pick was passed over
  pub record IsDone (steps : ℕ) (w : WorldAt State Value Fixed) (before : List (List Entry)) (recorded : RecordedAt) : Type 0 where
    pub last : WorldAt State Value Fixed
    pub after : List (List Entry)
    pub goes : GoesBy steps w last before after
    pub none : NoneGoes steps last
    pub logged : map (λ l. l.entries) recorded.threads ≡ after
    pub ends : map (λ l. l.end) recorded.threads ≡ map (end_of_thread code) last.threads
    pub ended : recorded.end ≡ end_of_world space code last
    pub none_passed : recorded.passed ≡ 0
