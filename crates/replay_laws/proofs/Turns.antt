-- What a turn of a replay answers, in the order of its tests.
use Rattle.replay_laws.specs.Log.{Log}
use Rattle.replay_laws.specs.Turns.{input_for}
use Rattle.log_pieces.specs.declared.end.End.{End}
use Rattle.log_pieces.specs.declared.flat.Flat.{Flat}
use Rattle.log_pieces.specs.declared.flat.Flat.TheVariants.{Clash, Known}
use Rattle.rw_objects.specs.declared.entry.Entry.{Entry}
use Rattle.rw_objects.specs.declared.entry.Kind.{Kind}
use Rattle.rw_objects.specs.declared.entry.Kind.TheVariants.{Access, TimedOut, Woken}
use Rattle.std.specs.Prelude.{◌≡◌, ◌≢◌, ℕ, ◌<◌, ◌≤◌, true, Option, Some, None}
use Rattle.replay_laws.proofs.System.{Next, Local, Ask, Asleep, Halted, System}
use Rattle.replay_laws.proofs.Worlds.{World, touches_of, Action, Nothing, Move, Do, action}
use Rattle.replay_laws.proofs.Logs.{IsOpen, end_of}

pub data Answer : Type 0 where
  Moved : Answer
  Passed : Answer
  Finished : Answer
  Missing : Answer
  Clashing : Answer
  Diverged : Answer
  Shut : Answer

abbrev pub out_or : {O : Type 0} → Option O → O → O
out_or None resume = resume
out_or (Some out) resume = out

-- the op that an entry of this kind speaks of
abbrev pub op_for : {O R S : Type 0} → Next O R S → Kind → Option O
op_for (Local s) kind = None
op_for (Ask op k) Access = Some op
op_for (Ask op k) Woken = None
op_for (Ask op k) TimedOut = None
op_for (Asleep resume out k) Access = None
op_for (Asleep resume out k) Woken = Some resume
op_for (Asleep resume out k) TimedOut = Some (out_or out resume)
op_for (Halted x) kind = None

module _ {V O R S : Type 0} (sys : System V O R S) where
  abbrev pub HasTouches : Option O → Entry → Type 0
  HasTouches None item = ⊥
  HasTouches (Some op) item = sys.touches op ≡ touches_of item.found

  -- the thread's op can give the entry's kind and touches
  abbrev pub CanGive : World V S → ℕ → Entry → Type 0
  CanGive w t item = HasTouches (op_for (sys.next (w.state t)) item.kind) item

  abbrev pub IsReadyAt : World V S → Action O R S → Type 0
  IsReadyAt w Nothing = ⊥
  IsReadyAt w (Move s) = Unit {0}
  IsReadyAt w (Do kind op k) = sys.ready op w.value ≡ true

  -- what the thread would do to give this entry
  abbrev pub action_for : World V S → ℕ → Entry → Action O R S
  action_for w t item = action (sys.next (w.state t)) (input_for item.kind)

  pub data IsItemTurn (w : World V S) (t : ℕ) (a : Answer) (item : Entry) : Type 0 where
    Cannot : (CanGive w t item → ⊥) → a ≡ Diverged → IsItemTurn w t a item
    Is_shut : CanGive w t item → (IsOpen item.found w → ⊥) → a ≡ Shut → IsItemTurn w t a item
    Not_ready : CanGive w t item → IsOpen item.found w → (IsReadyAt w (action_for w t item) → ⊥) → a ≡ Diverged → IsItemTurn w t a item
    Passes : CanGive w t item → IsOpen item.found w → IsReadyAt w (action_for w t item) → a ≡ Passed → IsItemTurn w t a item

  abbrev pub OfEntry : World V S → ℕ → Answer → Option (Flat Entry) → Type 0
  OfEntry w t a None = a ≡ Missing
  OfEntry w t a (Some (Known item)) = IsItemTurn w t a item
  OfEntry w t a (Some Clash) = a ≡ Clashing

  pub data IsPlaceTurn (log : Log) (w : World V S) (t : ℕ) (a : Answer) (e : End) : Type 0 where
    Past_places : e.places ≤ w.places t → a ≡ Diverged → IsPlaceTurn log w t a e
    At_place : w.places t < e.places → OfEntry w t a (log.entry t (w.places t)) → IsPlaceTurn log w t a e

  abbrev pub OfNext : Log → World V S → ℕ → Answer → End → Next O R S → Type 0
  OfNext log w t a e (Local s) = a ≡ Moved
  OfNext log w t a e (Ask op k) = IsPlaceTurn log w t a e
  OfNext log w t a e (Asleep resume out k) = IsPlaceTurn log w t a e
  OfNext log w t a e (Halted x) = a ≡ Diverged

  pub data IsEndTurn (log : Log) (w : World V S) (t : ℕ) (a : Answer) (e : End) : Type 0 where
    Ends : e.steps ≤ w.steps t → e ≡ end_of sys w t → a ≡ Finished → IsEndTurn log w t a e
    Ends_elsewhere : e.steps ≤ w.steps t → e ≢ end_of sys w t → a ≡ Diverged → IsEndTurn log w t a e
    Steps_left : w.steps t < e.steps → OfNext log w t a e (sys.next (w.state t)) → IsEndTurn log w t a e

  abbrev pub OfEnd : Log → World V S → ℕ → Answer → Option (Flat (End)) → Type 0
  OfEnd log w t a None = a ≡ Missing
  OfEnd log w t a (Some (Known e)) = IsEndTurn log w t a e
  OfEnd log w t a (Some Clash) = a ≡ Clashing

  pub data IsTurn (log : Log) (w : World V S) (t : ℕ) (a : Answer) : Type 0 where
    No_thread : sys.threads ≤ t → a ≡ Finished → IsTurn log w t a
    Of_thread : t < sys.threads → OfEnd log w t a (log.end t) → IsTurn log w t a
