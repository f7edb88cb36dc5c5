-- The objects that a step touches, with their versions before it, and which of them have another version behind it.
use Rattle.std.specs.Prelude.{◌≡◌, ℕ, Bool, false, ◌==◌, ◌&&◌, ◌||◌, not, List, [], ◌∷◌, map}
use Rattle.rw_objects.specs.Space.{Space}
use Rattle.rw_objects.specs.Code.{Code}
use Rattle.rw_objects.specs.declared.count.Count.{Count}
use Rattle.rw_objects.specs.declared.touch.Found.{Found}
use Rattle.rw_objects.specs.declared.touch.Found.TheVariants as found
use Rattle.rw_objects.specs.declared.touch.Touch.{Touch}
use Rattle.event_core.specs.declared.pick.Input.TheVariants.{Go, TimeOut}
use Rattle.event_core.specs.declared.step.PickStep.{PickStep}
use Rattle.event_core.specs.declared.step.PickStep.TheVariants as step
use Rattle.event_core.specs.World.{WorldAt, step_of_pick}
use Rattle.replay_laws.specs.Turns.{pick_of}
use Rattle.replay_gate.specs.declared.breaks.ObjectRange.{ObjectRange}
use Rattle.replay_gate.specs.Breaks.{is_among}
use Rattle.replay_gate.specs.declared.marks.Mark.{Mark}
use Rattle.replay_gate.specs.declared.marks.Marks.{Marks}

abbrev pub mark_of : (ℕ → Count) → Touch → Mark
mark_of counts t = record { object = t.object; version = (counts t.object).version }

-- what an entry found, as a mark
abbrev pub mark_of_found : Found → Mark
mark_of_found (found.Read o v) = record { object = o; version = v }
mark_of_found (found.Write o v r) = record { object = o; version = v }

-- an object of the range, at another version than was marked
abbrev pub is_rewritten : ObjectRange → (ℕ → Count) → Mark → Bool
is_rewritten objects counts m = is_among objects m.object && not ((counts m.object).version == m.version)

abbrev pub is_any_rewritten : ObjectRange → (ℕ → Count) → List Mark → Bool
is_any_rewritten objects counts [] = false
is_any_rewritten objects counts (m ∷ ms) = is_rewritten objects counts m || is_any_rewritten objects counts ms

module _ {Op Reply Value Fixed : Type 0} (space : Space Op Reply Value Fixed) where
  abbrev pub marks_of_step : (ℕ → Count) → PickStep Op → List Mark
  marks_of_step counts (step.Refused f) = []
  marks_of_step counts step.Local = []
  marks_of_step counts (step.Event op) = map (mark_of counts) (space.touches op)

module _ {State Op Reply Value Fixed : Type 0} (space : Space Op Reply Value Fixed) (code : Code State Op Reply Fixed) where
  -- the marks of a thread's going on and of its time-out
  pub record AreMarks (w : WorldAt State Value Fixed) (t : ℕ) (marks : Marks) : Type 0 where
    pub goes : marks.goes ≡ marks_of_step space w.memory.counts (step_of_pick space code w (pick_of t Go))
    pub times_out : marks.times_out ≡ marks_of_step space w.memory.counts (step_of_pick space code w (pick_of t TimeOut))
