-- The system of a machine over a space, and a world as the laws see it.
use Rattle.std.specs.Prelude.{ℕ, List, [], ◌∷◌, map, Option, Some, None, slice_get}
use Rattle.rw_objects.specs.declared.touch.Mode.{Mode}
use Rattle.rw_objects.specs.declared.touch.Mode.TheVariants.{Read, Write}
use Rattle.rw_objects.specs.declared.touch.Touch.{Touch as Touched}
use Rattle.wasm_types.specs.declared.outcome.Outcome.{Outcome}
use Rattle.wasm_types.specs.declared.outcome.Outcome.TheVariants.{Running}
use Rattle.rw_objects.specs.declared.next.Next.{Next as Nexts}
use Rattle.rw_objects.specs.declared.next.Next.TheVariants as nexts
use Rattle.rw_objects.specs.Space.{Space, is_ready, reply_of, effect_at}
use Rattle.rw_objects.specs.Code.{Code}
use Rattle.rw_objects.specs.Memory.{Memory, entry_of}
use Rattle.event_core.specs.declared.pick.Pick.{Pick}
use Rattle.event_core.specs.declared.step.PickStep.{PickStep}
use Rattle.event_core.specs.declared.step.PickStep.TheVariants as step
use Rattle.event_core.specs.Threads.{ThreadAt}
use Rattle.event_core.specs.World.{WorldAt, step_of_pick, world_after}
use Rattle.event_core.specs.End.{outcome_of}
use Rattle.replay_laws.proofs.System.{Touch, ReadOf, WriteOf, Next, Local, Ask, Asleep, Halted, System}
use Rattle.replay_laws.proofs.Worlds.{World, Happening}
use Rattle.rw_objects.specs.declared.entry.Entry.{Entry}

abbrev pub met_as : Mode → ℕ → Touch
met_as Read o = ReadOf o
met_as Write o = WriteOf o

abbrev pub met_by : Touched → Touch
met_by t = met_as t.mode t.object

module _ {State Op Reply Fixed : Type 0} (code : Code State Op Reply Fixed) where
  -- what a thread does next, with what it becomes
  abbrev pub going : Nexts Op → State → Next Op Reply (Option State)
  going nexts.Local s = Local (Some (code.local s))
  going (nexts.Ask op) s = Ask op (λ r. Some (code.take s r))
  going (nexts.Asleep resume out) s = Asleep resume out (λ r. Some (code.take s r))
  going (nexts.Halted o) s = Halted o

  -- a thread that is not there is halted
  abbrev pub next_at : Option State → Next Op Reply (Option State)
  next_at None = Halted Running
  next_at (Some s) = going (code.next s) s

  abbrev pub outcome_at : Option State → Outcome
  outcome_at None = Running
  outcome_at (Some s) = outcome_of (code.next s)

  abbrev pub state_at : Option (ThreadAt State) → Option State
  state_at None = None
  state_at (Some t) = Some t.state

  abbrev pub steps_at : Option (ThreadAt State) → ℕ
  steps_at None = 0
  steps_at (Some t) = code.steps t.state

  abbrev pub places_at : Option (ThreadAt State) → ℕ
  places_at None = 0
  places_at (Some t) = t.places

module _ {State Op Reply Value Fixed : Type 0} (space : Space Op Reply Value Fixed) (code : Code State Op Reply Fixed) where
  abbrev pub system_of : Fixed → ℕ → System Value Op Reply (Option State)
  system_of fixed threads =
      record {
        threads = threads;
        limit = 1000000000;
        next = next_at code;
        outcome = outcome_at code;
        touches = λ op. map met_by (space.touches op);
        ready = λ op values. is_ready space fixed values op;
        reply = λ op values. reply_of space fixed values op;
        change = λ op values. (effect_at space fixed values op).written;
      }

  -- a world by thread and by object
  abbrev pub view : WorldAt State Value Fixed → World Value (Option State)
  view w =
      record {
        state = λ t. state_at code (slice_get w.threads t);
        steps = λ t. steps_at code (slice_get w.threads t);
        places = λ t. places_at code (slice_get w.threads t);
        value = w.memory.values;
        version = λ o. (w.memory.counts o).version;
        reads = λ o. (w.memory.counts o).reads;
      }

  abbrev pub entry_if : Memory Value Fixed → PickStep Op → Option Entry
  entry_if m (step.Refused f) = None
  entry_if m step.Local = None
  entry_if m (step.Event op) = Some (entry_of space m op)

  -- the step of a pick
  abbrev pub happening : WorldAt State Value Fixed → Pick → Happening Value (Option State)
  happening w p = record { before = view w; thread = p.thread; input = p.input; after = view (world_after space code w p); entry = entry_if w.memory (step_of_pick space code w p) }

  abbrev pub happenings : WorldAt State Value Fixed → List Pick → List (Happening Value (Option State))
  happenings w [] = []
  happenings w (p ∷ ps) = happening w p ∷ happenings (world_after space code w p) ps
