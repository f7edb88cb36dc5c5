-- Logs of runs, gates and gated runs, of happenings.
use Rattle.replay_laws.specs.Log.{Log, known}
use Rattle.log_pieces.specs.declared.end.End.{End}
use Rattle.log_pieces.specs.declared.flat.Flat.{Flat}
use Rattle.log_pieces.specs.declared.flat.Flat.TheVariants.{Known}
use Rattle.rw_objects.specs.declared.entry.Entry.{Entry}
use Rattle.rw_objects.specs.declared.touch.Found.{Found}
use Rattle.rw_objects.specs.declared.touch.Found.TheVariants.{Read as ReadAt, Write as WriteAt}
use Rattle.std.specs.Prelude.{◌≡◌, ℕ, ◌<◌, ◌==◌, Bool, true, false, List, [], ◌∷◌, Option, Some, None, cond, ◌⊎◌, nat_lt, slice_get}
use Rattle.replay_laws.proofs.System.{System}
use Rattle.replay_laws.proofs.Worlds.{World, touches_of, Happening, IsStep}

abbrev pub own : Bool → Option Entry → List Entry → List Entry
own false e es = es
own true None es = es
own true (Some e) es = e ∷ es

-- the entries of thread t, in order
abbrev pub entries_of : {V S : Type 0} → ℕ → List (Happening V S) → List Entry
entries_of t [] = []
entries_of t (h ∷ hs) = own (h.thread == t) h.entry (entries_of t hs)

-- each touched object has the logged version, each that is written the logged total
abbrev pub IsOpen : {V S : Type 0} → List Found → World V S → Type 0
IsOpen [] w = Unit {0}
IsOpen (ReadAt o v ∷ fs) w = (w.version o ≡ v) × IsOpen fs w
IsOpen (WriteAt o v r ∷ fs) w = (w.version o ≡ v) × (w.reads o ≡ r) × IsOpen fs w

-- an event with entry e meets the log at its place
pub record IsEntryLet {V S : Type 0} (logged : Option (Flat Entry)) (places : ℕ) (h : Happening V S) (e : Entry) : Type 0 where
  pub place : h.before.places h.thread < places
  pub item : Entry
  pub is_known : logged ≡ Some (Known item)
  pub is_open : IsOpen item.found h.before
  pub same_kind : e.kind ≡ item.kind
  pub same_touches : touches_of e.found ≡ touches_of item.found

abbrev pub IsEventLet : {V S : Type 0} → Option (Flat Entry) → ℕ → Happening V S → Option Entry → Type 0
IsEventLet logged places h None = Unit {0}
IsEventLet logged places h (Some e) = IsEntryLet logged places h e

-- a step that the log lets pass
pub record IsLet {V S : Type 0} (log : Log) (h : Happening V S) : Type 0 where
  pub end : End
  pub is_known : log.end h.thread ≡ Some (Known end)
  pub below : h.before.steps h.thread < end.steps
  pub event : IsEventLet (log.entry h.thread (h.before.places h.thread)) end.places h h.entry

module _ {V O R S : Type 0} (sys : System V O R S) where
  -- where thread t ends
  abbrev pub end_of : World V S → ℕ → End
  end_of w t = record { steps = w.steps t; places = w.places t; outcome = sys.outcome (w.state t) }

  abbrev pub end_at : World V S → ℕ → Option (Flat (End))
  end_at w t = cond (nat_lt t sys.threads) (Some (Known (end_of w t))) None

  abbrev pub log_of : List (Happening V S) → World V S → Log
  log_of hs u = record { entry = λ t p. known (slice_get (entries_of t hs) p); end = end_at u }

  -- the log of the run hs to u, as far as the plan's threads go
  pub record Agrees (hs : List (Happening V S)) (u : World V S) (log : Log) : Type 0 where
    pub ends : (t : ℕ) → t < sys.threads → log.end t ≡ end_at u t
    pub entries : (t p : ℕ) → t < sys.threads → log.entry t p ≡ known (slice_get (entries_of t hs) p)

  -- a gated run from a log
  abbrev pub IsGated : Log → World V S → List (Happening V S) → World V S → Type 0
  IsGated log w [] u = w ≡ u
  IsGated log w (h ∷ hs) u = (h.before ≡ w) × IsStep sys h × IsLet log h × IsGated log h.after hs u

  -- some thread has a step that the log lets pass
  pub record HasStep (log : Log) (w : World V S) : Type 0 where
    pub step : Happening V S
    pub before : step.before ≡ w
    pub is_step : IsStep sys step
    pub is_let : IsLet log step

  -- every thread stands at its logged end
  abbrev pub IsFinished : Log → World V S → Type 0
  IsFinished log w = (t : ℕ) → t < sys.threads → log.end t ≡ end_at w t

-- the points of a run from w
abbrev pub IsPoint : {V S : Type 0} → World V S → List (Happening V S) → World V S → Type 0
IsPoint w [] u = u ≡ w
IsPoint w (h ∷ hs) u = (u ≡ w) ⊎ IsPoint h.after hs u

-- the value of object o after v writes of it
pub record IsRecorded {V S : Type 0} (w : World V S) (hs : List (Happening V S)) (o v : ℕ) (x : V) : Type 0 where
  pub point : World V S
  pub is_point : IsPoint w hs point
  pub version : point.version o ≡ v
  pub value : point.value o ≡ x

-- where thread t stands after k steps
pub record IsStood {V S : Type 0} (w : World V S) (hs : List (Happening V S)) (t k : ℕ) (s : S) (p : ℕ) : Type 0 where
  pub point : World V S
  pub is_point : IsPoint w hs point
  pub steps : point.steps t ≡ k
  pub state : point.state t ≡ s
  pub places : point.places t ≡ p

-- the same memory, results and traps
abbrev pub IsSameEnd : {V O R S : Type 0} → System V O R S → World V S → World V S → Type 0
IsSameEnd sys a b = ((o : ℕ) → a.value o ≡ b.value o) × ((t : ℕ) → t < sys.threads → sys.outcome (a.state t) ≡ sys.outcome (b.state t))
