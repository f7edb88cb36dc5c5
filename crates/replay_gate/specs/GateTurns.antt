-- What the gate before a thread's next event tells of its turn.
use Rattle.std.specs.Prelude.{◌≡◌, ◌↔◌, ℕ, ◌<◌, true, Some, slice_get}
use Rattle.rw_objects.specs.declared.entry.Entry.{Entry}
use Rattle.rw_objects.specs.declared.next.Next.{Next}
use Rattle.rw_objects.specs.declared.next.Next.TheVariants as next
use Rattle.rw_objects.specs.Space.{Space}
use Rattle.rw_objects.specs.Code.{Code}
use Rattle.event_core.specs.declared.pick.Input.{Input}
use Rattle.event_core.specs.Threads.{ThreadAt}
use Rattle.event_core.specs.World.{WorldAt, step_of_pick}
use Rattle.log_pieces.specs.declared.end.End.{End}
use Rattle.log_pieces.specs.declared.flat.Flat.TheVariants.{Known}
use Rattle.replay_laws.specs.declared.turn.Turn.{Turn}
use Rattle.replay_laws.specs.declared.turn.Turn.TheVariants as turn
use Rattle.replay_laws.specs.declared.turn.Refusal.TheVariants.{Missing, Clash, Shut, Diverged}
use Rattle.replay_laws.specs.Log.{Log}
use Rattle.replay_laws.specs.Turns.{pick_of, input_for, can_give, turn_by_step, turn_of}
use Rattle.replay_gate.specs.declared.answers.Gate.{Gate}
use Rattle.replay_gate.specs.declared.answers.Gate.TheVariants as gate
use Rattle.replay_gate.specs.Gate.{gate_of}

-- a thread that does this next stands before an event
abbrev pub IsEventNext : {Op : Type 0} → Next Op → Type 0
IsEventNext next.Local = ⊥
IsEventNext (next.Ask op) = Unit {0}
IsEventNext (next.Asleep resume out) = Unit {0}
IsEventNext (next.Halted outcome) = ⊥

module _ {State Op Reply Value Fixed : Type 0} (space : Space Op Reply Value Fixed) (code : Code State Op Reply Fixed) where
  -- thread t stands before an event with steps left, and can give the entry that the log knows at its place
  pub record StandsAtGate (log : Log) (w : WorldAt State Value Fixed) (t : ℕ) (thread : ThreadAt State) : Type 0 where
    pub exists : slice_get w.threads t ≡ Some thread
    pub event : IsEventNext (code.next thread.state)
    pub steps_left : (end : End) → log.end t ≡ Some (Known end) → code.steps thread.state < end.steps
    pub can : (item : Entry) → log.entry t thread.places ≡ Some (Known item) → can_give space (code.next thread.state) item ≡ true

  -- the turn is the step by which thread t gives the entry at its place: the event, or divergence where that is not
  -- enabled
  pub record IsStepOfEntry (log : Log) (w : WorldAt State Value Fixed) (t place : ℕ) (x : Turn) : Type 0 where
    pub item : Entry
    pub is_known : log.entry t place ≡ Some (Known item)
    pub within : (end : End) → log.end t ≡ Some (Known end) → place < end.places
    pub is : x ≡ turn_by_step (input_for item.kind) (step_of_pick space code w (pick_of t (input_for item.kind)))

  -- what a gate tells of a turn
  pub record TellsTurn (log : Log) (w : WorldAt State Value Fixed) (t place : ℕ) (g : Gate) (x : Turn) : Type 0 where
    pub missing : (g ≡ gate.Missing) ↔ (x ≡ turn.Refused Missing)
    pub clash : (g ≡ gate.Clash) ↔ (x ≡ turn.Refused Clash)
    pub shut : (g ≡ gate.Shut) ↔ (x ≡ turn.Refused Shut)
    pub opens : (g ≡ gate.Open) ↔ IsStepOfEntry log w t place x
    pub event : (input : Input) → x ≡ turn.Event input → g ≡ gate.Open
    pub past : g ≡ gate.Done → x ≡ turn.Refused Diverged

  abbrev pub GatesTellTurns : Type 0
  GatesTellTurns = (log : Log) (w : WorldAt State Value Fixed) (t : ℕ) (thread : ThreadAt State) → StandsAtGate log w t thread
      → TellsTurn log w t thread.places (gate_of log w.memory.counts t thread.places) (turn_of space code log w t)
