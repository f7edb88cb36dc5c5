-- Worlds, steps and runs.
use Rattle.event_core.specs.declared.pick.Input.{Input}
use Rattle.event_core.specs.declared.pick.Input.TheVariants.{Go, TimeOut}
use Rattle.rw_objects.specs.declared.entry.Entry.{Entry}
use Rattle.rw_objects.specs.declared.touch.Found.{Found}
use Rattle.rw_objects.specs.declared.touch.Found.TheVariants.{Read as ReadAt, Write as WriteAt}
use Rattle.rw_objects.specs.declared.entry.Kind.{Kind}
use Rattle.rw_objects.specs.declared.entry.Kind.TheVariants.{Access, TimedOut, Woken}
use Rattle.std.specs.Prelude.{◌≡◌, ℕ, ◌+◌, ◌<◌, ◌==◌, true, List, [], ◌∷◌, Option, Some, None, cond}
use Rattle.replay_laws.proofs.System.{Touch, ReadOf, WriteOf, Mode, Absent, Reading, Writing, mode, Next, Local, Ask, Asleep, Halted, System}

-- threads and objects at one moment
pub record World (V S : Type 0) : Type 0 where
  pub state : ℕ → S
  pub steps : ℕ → ℕ
  pub places : ℕ → ℕ
  pub value : ℕ → V
  pub version : ℕ → ℕ
  pub reads : ℕ → ℕ

abbrev pub touch_of : Found → Touch
touch_of (ReadAt o v) = ReadOf o
touch_of (WriteAt o v r) = WriteOf o

abbrev pub touches_of : List Found → List Touch
touches_of [] = []
touches_of (f ∷ fs) = touch_of f ∷ touches_of fs

abbrev pub found_by : (ℕ → ℕ) → (ℕ → ℕ) → List Touch → List Found
found_by version reads [] = []
found_by version reads (ReadOf o ∷ ts) = ReadAt o (version o) ∷ found_by version reads ts
found_by version reads (WriteOf o ∷ ts) = WriteAt o (version o) (reads o) ∷ found_by version reads ts

-- what a thread does at an input
pub data Action (O R S : Type 0) : Type 0 where
  Nothing : Action O R S
  Move : (after : S) → Action O R S
  Do : (kind : Kind) (op : O) (after : R → S) → Action O R S

abbrev pub out_of : {O R S : Type 0} → Option O → (R → S) → Action O R S
out_of None k = Nothing
out_of (Some op) k = Do TimedOut op k

abbrev pub action : {O R S : Type 0} → Next O R S → Input → Action O R S
action (Local s) Go = Move s
action (Local s) TimeOut = Nothing
action (Ask op k) Go = Do Access op k
action (Ask op k) TimeOut = Nothing
action (Asleep resume out k) Go = Do Woken resume k
action (Asleep resume out k) TimeOut = out_of out k
action (Halted x) i = Nothing

abbrev pub version_after : Mode → ℕ → ℕ
version_after Absent n = n
version_after Reading n = n
version_after Writing n = n + 1

abbrev pub reads_after : Mode → ℕ → ℕ
reads_after Absent n = n
reads_after Reading n = n + 1
reads_after Writing n = 0

abbrev pub value_after : {V : Type 0} → Mode → V → V → V
value_after Absent new old = old
value_after Reading new old = old
value_after Writing new old = new

-- the world after thread t came to s, by an event (1) or none (0) with these touches
abbrev pub advance : {V S : Type 0} → World V S → ℕ → S → ℕ → List Touch → (ℕ → V) → World V S
advance w t s events ts new =
    record {
      state = λ x. cond (x == t) s (w.state x);
      steps = λ x. cond (x == t) (w.steps x + 1) (w.steps x);
      places = λ x. cond (x == t) (w.places x + events) (w.places x);
      value = λ x. value_after (mode ts x) (new x) (w.value x);
      version = λ x. version_after (mode ts x) (w.version x);
      reads = λ x. reads_after (mode ts x) (w.reads x);
    }

-- the same, thread by thread and object by object
pub record IsSameWorld {V S : Type 0} (a b : World V S) : Type 0 where
  pub state : (x : ℕ) → a.state x ≡ b.state x
  pub steps : (x : ℕ) → a.steps x ≡ b.steps x
  pub places : (x : ℕ) → a.places x ≡ b.places x
  pub value : (x : ℕ) → a.value x ≡ b.value x
  pub version : (x : ℕ) → a.version x ≡ b.version x
  pub reads : (x : ℕ) → a.reads x ≡ b.reads x

-- one step: the world before, the pick, the world after and the entry of an event
pub record Happening (V S : Type 0) : Type 0 where
  pub before : World V S
  pub thread : ℕ
  pub input : Input
  pub after : World V S
  pub entry : Option Entry

abbrev pub touches_in : Option Entry → List Touch
touches_in None = []
touches_in (Some e) = touches_of e.found

-- how a step meets object x
abbrev pub meets : {V S : Type 0} → Happening V S → ℕ → Mode
meets h x = mode (touches_in h.entry) x

abbrev pub IsOpening : {V S : Type 0} → World V S → Type 0
IsOpening w = (x : ℕ) → (w.steps x ≡ 0) × (w.places x ≡ 0) × (w.version x ≡ 0) × (w.reads x ≡ 0)

module _ {V O R S : Type 0} (sys : System V O R S) where
  abbrev pub Does : Happening V S → Action O R S → Type 0
  Does h Nothing = ⊥
  Does h (Move s) = IsSameWorld h.after (advance h.before h.thread s 0 [] h.before.value) × (h.entry ≡ None)
  Does h (Do kind op k) =
      (sys.ready op h.before.value ≡ true)
      × IsSameWorld h.after (advance h.before h.thread (k (sys.reply op h.before.value)) 1 (sys.touches op) (sys.change op h.before.value))
      × (h.entry ≡ Some (record { kind = kind; found = found_by h.before.version h.before.reads (sys.touches op) }))

  -- the step of an enabled pick
  pub record IsStep (h : Happening V S) : Type 0 where
    pub exists : h.thread < sys.threads
    pub within : h.before.steps h.thread < sys.limit
    pub does : Does h (action (sys.next (h.before.state h.thread)) h.input)

  -- a run from w to u
  abbrev pub IsRun : World V S → List (Happening V S) → World V S → Type 0
  IsRun w [] u = w ≡ u
  IsRun w (h ∷ hs) u = (h.before ≡ w) × IsStep h × IsRun h.after hs u
