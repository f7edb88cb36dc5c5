-- The test of a break behind a turn that made a step, by what was marked before it.
use Rattle.std.specs.Prelude.{◌≡◌, ℕ, ◌<◌, Bool, true, false, ◌==◌, ◌&&◌, ◌||◌, List, Option, Some, None, option_map, slice_get}
use Rattle.rw_objects.specs.Code.{Code}
use Rattle.event_core.specs.World.{WorldAt}
use Rattle.replay_gate.specs.declared.answers.Turned.{Turned}
use Rattle.replay_gate.specs.declared.answers.Turned.TheVariants as turned
use Rattle.replay_gate.specs.declared.breaks.Break.{Break}
use Rattle.replay_gate.specs.declared.breaks.Break.TheVariants as break
use Rattle.replay_gate.specs.declared.marks.Marks.{Marks}
use Rattle.replay_gate.specs.Marks.{is_any_rewritten}

abbrev pub is_answer : Turned → Bool
is_answer turned.Local = false
is_answer turned.Event = true
is_answer turned.Done = false

abbrev pub is_number : Option ℕ → ℕ → Bool
is_number None n = false
is_number (Some m) n = m == n

module _ {State Op Reply Value Fixed : Type 0} (code : Code State Op Reply Fixed) where
  abbrev pub holds_by : Break → ℕ → Turned → Marks → WorldAt State Value Fixed → Bool
  holds_by (break.Place thread place) t x marks v = (t == thread) && is_answer x && is_number (option_map (λ th. th.places) (slice_get v.threads t)) place
  holds_by (break.Step thread steps) t x marks v = (t == thread) && is_number (option_map (λ th. code.steps th.state) (slice_get v.threads t)) steps
  holds_by (break.Write objects) t x marks v = is_any_rewritten objects v.memory.counts marks.goes || is_any_rewritten objects v.memory.counts marks.times_out

  -- the first break of the list that passes the test
  pub record IsFirst (breaks : List Break) (t : ℕ) (x : Turned) (marks : Marks) (v : WorldAt State Value Fixed) (index : ℕ) : Type 0 where
    pub one : Break
    pub is : slice_get breaks index ≡ Some one
    pub holds : holds_by one t x marks v ≡ true
    pub first : (j : ℕ) (b : Break) → j < index → slice_get breaks j ≡ Some b → holds_by b t x marks v ≡ false

  abbrev pub HoldsNone : List Break → ℕ → Turned → Marks → WorldAt State Value Fixed → Type 0
  HoldsNone breaks t x marks v = (j : ℕ) (b : Break) → slice_get breaks j ≡ Some b → holds_by b t x marks v ≡ false
