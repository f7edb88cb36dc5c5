-- What a turn of a thread does in a replay, in the order of its tests.
use Rattle.std.specs.Prelude.{ℕ, Bool, false, cond, nat_lt, List, Option, Some, None, slice_get}
use Rattle.rw_objects.specs.declared.entry.Entry.{Entry}
use Rattle.rw_objects.specs.declared.entry.Kind.{Kind}
use Rattle.rw_objects.specs.declared.entry.Kind.TheVariants.{Access, Woken, TimedOut}
use Rattle.rw_objects.specs.declared.touch.Found.{Found}
use Rattle.rw_objects.specs.declared.next.Next.{Next}
use Rattle.rw_objects.specs.declared.next.Next.TheVariants as next
use Rattle.rw_objects.specs.Space.{Space}
use Rattle.rw_objects.specs.Code.{Code}
use Rattle.event_core.specs.declared.pick.Pick.{Pick}
use Rattle.event_core.specs.declared.pick.Input.{Input}
use Rattle.event_core.specs.declared.pick.Input.TheVariants.{Go, TimeOut}
use Rattle.event_core.specs.declared.step.PickStep.{PickStep}
use Rattle.event_core.specs.declared.step.PickStep.TheVariants as step
use Rattle.event_core.specs.Threads.{ThreadAt}
use Rattle.event_core.specs.World.{WorldAt, step_of_pick, world_after}
use Rattle.log_pieces.specs.contracts.end.EndPartialEq.TheImpl as ends
use Rattle.log_pieces.specs.declared.end.End.{End}
use Rattle.log_pieces.specs.declared.flat.Flat.{Flat}
use Rattle.log_pieces.specs.declared.flat.Flat.TheVariants as flat
use Rattle.replay_laws.specs.declared.turn.Turn.{Turn}
use Rattle.replay_laws.specs.declared.turn.Turn.TheVariants as turn
use Rattle.replay_laws.specs.declared.turn.Refusal.TheVariants.{Missing, Clash, Shut, Diverged}
use Rattle.replay_laws.specs.Log.{Log}
use Rattle.replay_laws.specs.RunLog.{end_of_thread}
use Rattle.replay_laws.specs.Gates.{is_open, are_of}

abbrev pub pick_of : ℕ → Input → Pick
pick_of t input = record { thread = t; input = input }

-- how a thread is picked that is to log this kind
abbrev pub input_for : Kind → Input
input_for Access = Go
input_for Woken = Go
input_for TimedOut = TimeOut

abbrev pub out_or_resume : {Op : Type 0} → Option Op → Op → Op
out_or_resume None resume = resume
out_or_resume (Some out) resume = out

-- the operation that an entry of this kind speaks of; a time-out of a thread that waits without a limit of time touches
-- what its going on touches
abbrev pub op_for : {Op : Type 0} → Next Op → Kind → Option Op
op_for next.Local kind = None
op_for (next.Ask op) Access = Some op
op_for (next.Ask op) Woken = None
op_for (next.Ask op) TimedOut = None
op_for (next.Asleep resume out) Access = None
op_for (next.Asleep resume out) Woken = Some resume
op_for (next.Asleep resume out) TimedOut = Some (out_or_resume out resume)
op_for (next.Halted outcome) kind = None

module _ {Op Reply Value Fixed : Type 0} (space : Space Op Reply Value Fixed) where
  abbrev pub op_gives : Option Op → List Found → Bool
  op_gives None fs = false
  op_gives (Some op) fs = are_of (space.touches op) fs

  -- a thread that does this next can give the entry's kind and touches
  abbrev pub can_give : Next Op → Entry → Bool
  can_give n item = op_gives (op_for n item.kind) item.found

-- the same steps, places and outcome
abbrev pub same_end : End → End → Bool
same_end = (ends.eq-value).it

-- an event that is not enabled diverges
abbrev pub turn_by_step : {Op : Type 0} → Input → PickStep Op → Turn
turn_by_step input (step.Refused f) = turn.Refused Diverged
turn_by_step input step.Local = turn.Refused Diverged
turn_by_step input (step.Event op) = turn.Event input

module _ {State Op Reply Value Fixed : Type 0} (space : Space Op Reply Value Fixed) (code : Code State Op Reply Fixed) where
  abbrev pub turn_by_item : WorldAt State Value Fixed → ℕ → Next Op → Entry → Turn
  turn_by_item w t n item =
      cond (can_give space n item)
      (cond (is_open item.found w.memory.counts)
      (turn_by_step (input_for item.kind) (step_of_pick space code w (pick_of t (input_for item.kind))))
      (turn.Refused Shut))
      (turn.Refused Diverged)

  abbrev pub turn_by_entry : WorldAt State Value Fixed → ℕ → Next Op → Option (Flat Entry) → Turn
  turn_by_entry w t n None = turn.Refused Missing
  turn_by_entry w t n (Some (flat.Known item)) = turn_by_item w t n item
  turn_by_entry w t n (Some flat.Clash) = turn.Refused Clash

  abbrev pub turn_by_place : Log → WorldAt State Value Fixed → ℕ → Next Op → ℕ → ℕ → Turn
  turn_by_place log w t n place places = cond (nat_lt place places) (turn_by_entry w t n (log.entry t place)) (turn.Refused Diverged)

  abbrev pub turn_by_next : Log → WorldAt State Value Fixed → ℕ → ℕ → ℕ → Next Op → Turn
  turn_by_next log w t place places next.Local = turn.Local
  turn_by_next log w t place places (next.Ask op) = turn_by_place log w t (next.Ask op) place places
  turn_by_next log w t place places (next.Asleep resume out) = turn_by_place log w t (next.Asleep resume out) place places
  turn_by_next log w t place places (next.Halted outcome) = turn.Refused Diverged

  abbrev pub turn_by_end : Log → WorldAt State Value Fixed → ℕ → ThreadAt State → Option (Flat End) → Turn
  turn_by_end log w t thread None = turn.Refused Missing
  turn_by_end log w t thread (Some (flat.Known end)) =
      cond (nat_lt (code.steps thread.state) end.steps)
      (turn_by_next log w t thread.places end.places (code.next thread.state))
      (cond (same_end end (end_of_thread code thread)) turn.Done (turn.Refused Diverged))
  turn_by_end log w t thread (Some flat.Clash) = turn.Refused Clash

  abbrev pub turn_by_thread : Log → WorldAt State Value Fixed → ℕ → Option (ThreadAt State) → Turn
  turn_by_thread log w t None = turn.Done
  turn_by_thread log w t (Some thread) = turn_by_end log w t thread (log.end t)

  -- what a turn of thread t does
  abbrev pub turn_of : Log → WorldAt State Value Fixed → ℕ → Turn
  turn_of log w t = turn_by_thread log w t (slice_get w.threads t)

  -- what a turn leaves
  abbrev pub world_after_turn : WorldAt State Value Fixed → ℕ → Turn → WorldAt State Value Fixed
  world_after_turn w t turn.Done = w
  world_after_turn w t turn.Local = world_after space code w (pick_of t Go)
  world_after_turn w t (turn.Event input) = world_after space code w (pick_of t input)
  world_after_turn w t (turn.Refused r) = w

-- the input by which a turn makes a step, if it does
abbrev pub input_of_turn : Turn → Option Input
input_of_turn turn.Done = None
input_of_turn turn.Local = Some Go
input_of_turn (turn.Event input) = Some input
input_of_turn (turn.Refused r) = None
