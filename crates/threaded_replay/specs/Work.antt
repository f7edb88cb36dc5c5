-- The work of one worker of a replay.
use Rattle.std.specs.Prelude.{◌≡◌, ◌⊎◌, ℕ, ◌+◌, ◌≤◌, true, List, [], length}
use Rattle.wasm_types.specs.declared.sizes.TheConstants.{MOST_STEPS}
use Rattle.rw_objects.specs.Code.{Code}
use Rattle.event_core.specs.declared.thread.Thread.{Thread}
use Rattle.event_core.specs.Opening.{IsFresh}
use Rattle.replica.specs.End.{End}
use Rattle.replay_laws.specs.Log.{Log}
use Rattle.shared_core.specs.Call.{Call}
use Rattle.workers.specs.Driving.{Went}
use Rattle.threaded_replay.specs.declared.follower.Follower.{Follower}
use Rattle.threaded_replay.specs.Following.{Follows}

-- the thread of a machine that made no step
abbrev pub opened_thread : {M : Type 0} → M → Thread M
opened_thread machine = record { machine = machine; places = 0 }

module _ {M L State Op Reply Fixed : Type 0} (code : Code State Op Reply Fixed) (state : M → State) where
  -- a worker's thread made no step, and was made for a space with these fixed numbers
  pub record CanFollow (fixed : Fixed) (w : Follower M L) : Type 0 where
    pub fresh : IsFresh code fixed (state w.thread.machine)
    pub places : w.thread.places ≡ 0

  -- the worker of thread t drove it, by own steps with these calls, along the log; or it made no step
  pub record HasFollowed (log : Log) (t : ℕ) (w : Follower M L) (calls : List (Call Op Reply)) (u : Follower M L) : Type 0 where
    pub went : Went code (λ s. true) t (state w.thread.machine) [] (state u.thread.machine) calls
    pub places : u.thread.places ≡ w.thread.places + length calls
    pub limit : code.steps (state u.thread.machine) ≤ MOST_STEPS
    pub followed : (code.steps (state u.thread.machine) ≡ 0) ⊎ ((end : End) × Follows code log end t (state u.thread.machine) calls)
