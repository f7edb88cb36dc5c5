-- The runs that are drawn by a number: stretches of one pick, each of a random length.
use Rattle.std.specs.Prelude.{◌≡◌, ◌≤◌, ◌⊎◌, ℕ, Bool, true, false, cond, List, [], ◌∷◌, ◌++◌, length, map, replicate, Some, slice_get}
use Rattle.std.specs.List.{filter, range_with_len}
use Rattle.rw_objects.specs.Space.{Space}
use Rattle.rw_objects.specs.Code.{Code}
use Rattle.event_core.specs.declared.pick.Pick.{Pick}
use Rattle.event_core.specs.declared.pick.Input.{Input}
use Rattle.event_core.specs.declared.pick.Input.TheVariants.{Go, TimeOut}
use Rattle.event_core.specs.declared.step.PickStep.{PickStep}
use Rattle.event_core.specs.declared.step.PickStep.TheVariants as step
use Rattle.event_core.specs.World.{WorldAt, step_of_pick}
use Rattle.event_core.specs.Run.{world_run, IsRun, entries, run_end}
use Rattle.pick_schedule.specs.declared.stretches.Stretch.{Stretch}
use Rattle.pick_schedule.specs.Stretches.{picks_of, picks_in}
use Rattle.rand_pcg.specs.Lcg.{Lcg}
use Rattle.recorder.specs.Picks.{is_taken, picks_taken, picks_passed}
use Rattle.recorder.specs.ThreadLogAt.{RecordedAt, log_of}
use Rattle.replay_laws.specs.RunLog.{run_log}
use Rattle.replay_laws.specs.Turns.{pick_of}
use Rattle.recorder.specs.Words.{generator_of, word_of, behind_word, below, exponent_of, accesses_by}

-- the picks of so many threads by one input, thread 0 first
abbrev pub picks_by : Input → ℕ → List Pick
picks_by input threads = map (λ t. pick_of t input) (range_with_len 0 threads)

-- all picks of so many threads: that each goes on, and behind them, where time-outs are drawn, that each times out
abbrev pub all_picks : Bool → ℕ → List Pick
all_picks timeouts threads = picks_by Go threads ++ cond timeouts (picks_by TimeOut threads) []

abbrev pub is_event : {Op : Type 0} → PickStep Op → Bool
is_event (step.Refused f) = false
is_event step.Local = false
is_event (step.Event op) = true

module _ {State Op Reply Value Fixed : Type 0} (space : Space Op Reply Value Fixed) (code : Code State Op Reply Fixed) (steps : ℕ) where
  -- the picks that can be drawn: those that are taken, of threads that made fewer than so many steps
  abbrev pub candidates : Bool → WorldAt State Value Fixed → List Pick
  candidates timeouts w = filter (is_taken space code steps w) (all_picks timeouts (length w.threads))

  -- a pick is made so many times: as long as it is taken, up to but not including the event behind so many events
  pub record IsStretch (w : WorldAt State Value Fixed) (p : Pick) (events times : ℕ) : Type 0 where
    pub taken : picks_taken space code steps w (replicate times p) ≡ replicate times p
    pub few : length (entries space code w (replicate times p) p.thread) ≤ events
    pub whole :
        (is_taken space code steps (world_run space code w (replicate times p)) p ≡ false)
        ⊎ ((is_event (step_of_pick space code (world_run space code w (replicate times p)) p) ≡ true) × (length (entries space code w (replicate times p) p.thread) ≡ events))

  -- the stretch that a generator draws by two words: the first says which of the candidates, the second how many events
  -- it may make, by the run's exponent
  pub record IsDrawnNext (timeouts : Bool) (exponent : ℕ) (g : Lcg) (w : WorldAt State Value Fixed) (s : Stretch) : Type 0 where
    pub pick : slice_get (candidates timeouts w) (below (word_of g) (length (candidates timeouts w))) ≡ Some s.pick
    pub stretch : IsStretch w s.pick (accesses_by exponent (word_of (behind_word g))) s.times

  -- stretches are drawn one behind the other, until no pick can be drawn
  abbrev pub IsDrawn : Bool → ℕ → Lcg → WorldAt State Value Fixed → List Stretch → Type 0
  IsDrawn timeouts exponent g w [] = candidates timeouts w ≡ []
  IsDrawn timeouts exponent g w (s ∷ ss) = IsDrawnNext timeouts exponent g w s × IsDrawn timeouts exponent (behind_word (behind_word g)) (world_run space code w (picks_of s)) ss

  -- the stretches of the run that a number draws
  abbrev pub IsDrawnBy : ℕ → Bool → WorldAt State Value Fixed → List Stretch → Type 0
  IsDrawnBy number timeouts w ss = IsDrawn timeouts (exponent_of number) (behind_word (generator_of number)) w ss

  -- and each of their picks is taken in turn
  pub record IsDrawnWhole (number : ℕ) (timeouts : Bool) (w : WorldAt State Value Fixed) (ss : List Stretch) : Type 0 where
    pub drawn : IsDrawnBy number timeouts w ss
    pub taken : picks_taken space code steps w (picks_in ss) ≡ picks_in ss
    pub none_passed : picks_passed space code steps w (picks_in ss) ≡ 0

  -- the log and the end of that run were recorded, and no pick was passed over
  pub record IsRandomRun (number : ℕ) (timeouts : Bool) (w : WorldAt State Value Fixed) (recorded : RecordedAt) : Type 0 where
    pub stretches : List Stretch
    pub drawn : IsDrawnBy number timeouts w stretches
    pub run : IsRun space code w (picks_in stretches)
    pub log : log_of recorded.threads ≡ run_log space code w (picks_in stretches)
    pub end : recorded.end ≡ run_end space code w (picks_in stretches)
    pub none_passed : recorded.passed ≡ 0

  -- a number, a world and whether time-outs are drawn have one list of stretches
  abbrev pub DrawnOnce : Type 0
  DrawnOnce = (number : ℕ) (timeouts : Bool) (w : WorldAt State Value Fixed) (ss ts : List Stretch) → IsDrawnBy number timeouts w ss → IsDrawnBy number timeouts w ts → ss ≡ ts
