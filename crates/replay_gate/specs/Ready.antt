-- Turns by which a thread goes on.
use Rattle.std.specs.Prelude.{◌≡◌, ℕ, ◌<◌, Option, Some, slice_get}
use Rattle.rw_objects.specs.declared.entry.Entry.{Entry}
use Rattle.rw_objects.specs.Space.{Space}
use Rattle.rw_objects.specs.Code.{Code}
use Rattle.rw_objects.specs.Memory.{entry_of}
use Rattle.event_core.specs.declared.pick.Input.TheVariants.{Go}
use Rattle.event_core.specs.declared.step.PickStep.TheVariants as step
use Rattle.event_core.specs.Threads.{ThreadAt}
use Rattle.event_core.specs.World.{WorldAt, step_of_pick}
use Rattle.log_pieces.specs.declared.end.End.{End}
use Rattle.log_pieces.specs.declared.flat.Flat.{Flat}
use Rattle.log_pieces.specs.declared.flat.Flat.TheVariants.{Known}
use Rattle.replay_laws.specs.declared.turn.Turn.TheVariants as turn
use Rattle.replay_laws.specs.Log.{Log}
use Rattle.replay_laws.specs.Turns.{pick_of, turn_of, world_after_turn}
use Rattle.replay_gate.specs.declared.ready.Ready.{Ready}
use Rattle.replay_gate.specs.declared.ready.Ready.TheVariants as ready

module _ {Op Reply Value Fixed : Type 0} (space : Space Op Reply Value Fixed) where
  -- the entry of the operation is claimed at the thread's next place, before its logged end, and is held
  pub record IsLogged {State : Type 0} (log : Log) (w : WorldAt State Value Fixed) (t : ℕ) (op : Op) (held : Option (Flat Entry)) : Type 0 where
    pub thread : ThreadAt State
    pub exists : slice_get w.threads t ≡ Some thread
    pub end : End
    pub is_known : log.end t ≡ Some (Known end)
    pub below : thread.places < end.places
    pub claimed : log.entry t thread.places ≡ Some (Known (entry_of space w.memory op))
    pub holds : held ≡ Some (Known (entry_of space w.memory op))

module _ {State Op Reply Value Fixed : Type 0} (space : Space Op Reply Value Fixed) (code : Code State Op Reply Fixed) where
  -- the event by which the thread goes on is its turn, and its entry is held
  pub record GoesOnByEvent (log : Log) (w : WorldAt State Value Fixed) (t : ℕ) (held : Option (Flat Entry)) (v : WorldAt State Value Fixed) : Type 0 where
    pub is : turn_of space code log w t ≡ turn.Event Go
    pub op : Op
    pub step : step_of_pick space code w (pick_of t Go) ≡ step.Event op
    pub holds : held ≡ Some (Known (entry_of space w.memory op))
    pub leads : v ≡ world_after_turn space code w t (turn.Event Go)

  abbrev pub IsReady : Log → WorldAt State Value Fixed → ℕ → Ready → Option (Flat Entry) → WorldAt State Value Fixed → Type 0
  IsReady log w t ready.Local held v = (turn_of space code log w t ≡ turn.Local) × (v ≡ world_after_turn space code w t turn.Local)
  IsReady log w t ready.Event held v = GoesOnByEvent log w t held v
  IsReady log w t ready.Not held v = v ≡ w
