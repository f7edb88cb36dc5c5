-- How far a recording has come, in a stretch and over stretches.
use Rattle.std.specs.Prelude.{◌≡◌, ◌≤◌, ◌⊎◌, ℕ, ◌+◌, Bool, true, false, List, [], ◌∷◌, ◌++◌, length, replicate, Some, Option, None}
use Rattle.rw_objects.specs.Space.{Space}
use Rattle.rw_objects.specs.Code.{Code}
use Rattle.rw_objects.specs.declared.entry.Entry.{Entry}
use Rattle.event_core.specs.declared.pick.Pick.{Pick}
use Rattle.event_core.specs.LocalRun.{goes}
use Rattle.event_core.specs.Threads.{ThreadAt}
use Rattle.event_core.specs.World.{WorldAt, step_of_pick}
use Rattle.event_core.specs.Run.{entries}
use Rattle.event_core.specs.ThreadRun.{IsThreadRun}
use Rattle.pick_schedule.specs.declared.stretches.Stretch.{Stretch}
use Rattle.pick_schedule.specs.Stretches.{picks_in}
use Rattle.rand_pcg.specs.Lcg.{Lcg}
use Rattle.recorder.specs.Picks.{is_taken}
use Rattle.recorder.specs.Recorded.{list_at, OthersStay, AreRecorded}
use Rattle.recorder.specs.Draw.{is_event, IsStretch, IsDrawn, IsDrawnBy}

-- the stretch that was drawn, if there is one
abbrev pub drawn_list : Option Stretch → List Stretch
drawn_list None = []
drawn_list (Some s) = s ∷ []

-- a list is kept where that is wanted
abbrev pub IsKept : Bool → List Stretch → List Stretch → Type 0
IsKept keeps kept stretches = keeps ≡ true → kept ≡ stretches

-- the steps of a thread; 0 where there is none
abbrev pub steps_at : {State Op Reply Fixed : Type 0} → Code State Op Reply Fixed → Option (ThreadAt State) → ℕ
steps_at code None = 0
steps_at code (Some t) = code.steps t.state

module _ {State Op Reply Value Fixed : Type 0} (space : Space Op Reply Value Fixed) (code : Code State Op Reply Fixed) where
  -- a thread went on, at most so many times, and its entries stand behind those of its log; of the events that it may
  -- make some are left
  pub record IsFewRun (t most left rest : ℕ) (w v : WorldAt State Value Fixed) (lists news : List (List Entry)) : Type 0 where
    pub times : ℕ
    pub few : times ≤ most
    pub run : IsThreadRun space code (λ es e. Some (es ++ e ∷ [])) t times w v (list_at lists t) (list_at news t)
    pub others : OthersStay t lists news
    pub counted : length (entries space code w (goes t times) t) + rest ≡ left

  module _ (steps : ℕ) where
    -- a pick was made so many times and its entries noted; of the events that it may make some are left
    pub record Makes (p : Pick) (left rest : ℕ) (w v : WorldAt State Value Fixed) (lists news : List (List Entry)) : Type 0 where
      pub times : ℕ
      pub recorded : AreRecorded space code steps (replicate times p) w v lists news 0 0
      pub counted : length (entries space code w (replicate times p) p.thread) + rest ≡ left

    -- a pick is not made once more: it is not taken, or its step is an event and none may be made
    abbrev pub IsOverAt : WorldAt State Value Fixed → Pick → ℕ → Type 0
    IsOverAt w p left = (is_taken space code steps w p ≡ false) ⊎ ((is_event (step_of_pick space code w p) ≡ true) × (left ≡ 0))

    -- a pick was made once more, and this many events are left, or it is not made and nothing has changed
    abbrev pub StepsOn : Pick → ℕ → WorldAt State Value Fixed → WorldAt State Value Fixed → List (List Entry) → List (List Entry) → Option ℕ → Type 0
    StepsOn p left w v lists news None = (v ≡ w) × (news ≡ lists) × IsOverAt w p left
    StepsOn p left w v lists news (Some rest) = (made : Makes p left rest w v lists news) × (made.times ≡ 1)

    -- a whole stretch was made and its entries noted
    pub record MakesStretch (p : Pick) (events : ℕ) (w v : WorldAt State Value Fixed) (lists news : List (List Entry)) : Type 0 where
      pub times : ℕ
      pub recorded : AreRecorded space code steps (replicate times p) w v lists news 0 0
      pub stretch : IsStretch space code steps w p events times

    -- stretches that were drawn lead from a world and a generator to others, and their entries were noted
    pub record DrawsOn (timeouts : Bool) (exponent : ℕ) (g h : Lcg) (w v : WorldAt State Value Fixed) (stretches : List Stretch) (lists news : List (List Entry)) : Type 0 where
      pub recorded : AreRecorded space code steps (picks_in stretches) w v lists news 0 0
      pub drawn : (ss : List Stretch) → IsDrawn space code steps timeouts exponent h v ss → IsDrawn space code steps timeouts exponent g w (stretches ++ ss)

    -- all stretches that a number draws were made, and their entries noted
    pub record MakesDrawn (number : ℕ) (timeouts : Bool) (w v : WorldAt State Value Fixed) (stretches : List Stretch) (lists news : List (List Entry)) : Type 0 where
      pub recorded : AreRecorded space code steps (picks_in stretches) w v lists news 0 0
      pub drawn : IsDrawnBy space code steps number timeouts w stretches
