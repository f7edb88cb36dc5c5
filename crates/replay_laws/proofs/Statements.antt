-- What is proved of runs and their replays.
use Rattle.replay_laws.specs.Log.{Log}
use Rattle.std.specs.Prelude.{◌≡◌, ℕ, List, ◌⊎◌}
use Rattle.replay_laws.proofs.System.{System}
use Rattle.replay_laws.proofs.Worlds.{World, Happening, IsOpening, IsRun}
use Rattle.replay_laws.proofs.Logs.{IsGated, IsFinished, HasStep, IsRecorded, IsStood, IsSameEnd, log_of}
use Rattle.replay_laws.specs.Log.{IsBelowLog, IsCompleteLog}
use Rattle.replay_laws.proofs.Turns.{Answer, IsTurn, Moved, Passed, Missing, Clashing, Diverged}

module _ {V O R S : Type 0} (sys : System V O R S) where
  -- a run from an opening world
  pub record IsWholeRun (w : World V S) (hs : List (Happening V S)) (u : World V S) : Type 0 where
    pub opening : IsOpening w
    pub run : IsRun sys w hs u

  -- each version of an object has one value
  abbrev pub OneValue : Type 0
  OneValue = (w : World V S) (hs : List (Happening V S)) (u : World V S) → IsWholeRun w hs u → (o v : ℕ) (x y : V) → IsRecorded w hs o v x → IsRecorded w hs o v y → x ≡ y

  -- g is right, seen from the run hs
  pub record IsRight (w : World V S) (hs : List (Happening V S)) (log : Log) (g : World V S) : Type 0 where
    pub objects : (o : ℕ) → IsRecorded w hs o (g.version o) (g.value o)
    pub threads : (t : ℕ) → IsStood w hs t (g.steps t) (g.state t) (g.places t)
    pub no_clash : (t : ℕ) → IsTurn sys log g t Clashing → ⊥
    pub no_divergence : (t : ℕ) → IsTurn sys log g t Diverged → ⊥

  -- no wrong value on the way
  abbrev pub RightOnTheWay : Type 0
  RightOnTheWay = (w : World V S) (hs : List (Happening V S)) (u : World V S) → IsWholeRun w hs u → (log : Log) → IsBelowLog log (log_of sys hs u) → (gs : List (Happening V S)) (g : World V S) → IsGated sys log w gs g → IsRight w hs log g

  -- no gate shuts for good
  abbrev pub NoGateShutsForGood : Type 0
  NoGateShutsForGood = (w : World V S) (hs : List (Happening V S)) (u : World V S) → IsWholeRun w hs u → (log : Log) → IsBelowLog log (log_of sys hs u) → IsCompleteLog sys.threads log → (gs : List (Happening V S)) (g : World V S) → IsGated sys log w gs g → IsFinished sys log g ⊎ HasStep sys log g

  -- a run's own log is complete, and below itself
  abbrev pub RunsLogIsComplete : Type 0
  RunsLogIsComplete = (w : World V S) (hs : List (Happening V S)) (u : World V S) → IsWholeRun w hs u → IsCompleteLog sys.threads (log_of sys hs u) × IsBelowLog (log_of sys hs u) (log_of sys hs u)

  -- a finished gated run vouches for the log
  pub record IsVouched (log : Log) (gs : List (Happening V S)) (g : World V S) : Type 0 where
    pub below : IsBelowLog (log_of sys gs g) log
    pub entries : IsCompleteLog sys.threads log → (t p : ℕ) → (log_of sys gs g).entry t p ≡ log.entry t p
    pub ends : IsCompleteLog sys.threads log → (t : ℕ) → (log_of sys gs g).end t ≡ log.end t

  abbrev pub FinishedVouches : Type 0
  FinishedVouches = (w : World V S) → IsOpening w → (log : Log) (gs : List (Happening V S)) (g : World V S) → IsGated sys log w gs g → IsFinished sys log g → IsRun sys w gs g × IsVouched log gs g

  -- every replay that reaches its end has the run's memory, results and traps
  abbrev pub ReplaysEndAlike : Type 0
  ReplaysEndAlike = (w : World V S) (hs : List (Happening V S)) (u : World V S) → IsWholeRun w hs u → (log : Log) → IsBelowLog log (log_of sys hs u) → (gs : List (Happening V S)) (g : World V S) → IsGated sys log w gs g → IsFinished sys log g → IsSameEnd sys g u

  -- some thread's turn makes a step
  pub record HasTurn (log : Log) (g : World V S) : Type 0 where
    pub thread : ℕ
    pub answer : Answer
    pub is_step : (answer ≡ Moved) ⊎ (answer ≡ Passed)
    pub turn : IsTurn sys log g thread answer

  -- on a complete log below a run's: no clash, nothing missing and no divergence, and while it is not finished some
  -- turn makes a step
  pub record IsFree (log : Log) (g : World V S) : Type 0 where
    pub turns : IsFinished sys log g ⊎ HasTurn log g
    pub no_clash : (t : ℕ) → IsTurn sys log g t Clashing → ⊥
    pub no_missing : (t : ℕ) → IsTurn sys log g t Missing → ⊥
    pub no_divergence : (t : ℕ) → IsTurn sys log g t Diverged → ⊥

  abbrev pub ReplaysAreFree : Type 0
  ReplaysAreFree = (w : World V S) (hs : List (Happening V S)) (u : World V S) → IsWholeRun w hs u → (log : Log) → IsBelowLog log (log_of sys hs u) → IsCompleteLog sys.threads log → (gs : List (Happening V S)) (g : World V S) → IsGated sys log w gs g → IsFree log g
