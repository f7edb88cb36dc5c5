-- The work of one worker.
use Rattle.std.specs.Prelude.{◌≡◌, ℕ, ◌+◌, ◌≤◌, Bool, true, false, List, [], length}
use Rattle.wasm_types.specs.declared.sizes.TheConstants.{MOST_STEPS}
use Rattle.rw_objects.specs.Code.{Code}
use Rattle.shared_parts.specs.declared.call.Call.{Call}
use Rattle.workers.specs.declared.worker.Worker.{Worker}
use Rattle.workers.specs.Driving.{Went}

-- a worker of a machine that made no step
abbrev pub opening_worker : {M : Type 0} → ℕ → M → Worker M
opening_worker steps machine = record { thread = record { machine = machine; places = 0 }; steps = steps; is_starved = false }

module _ {M State Op Reply Fixed : Type 0} (code : Code State Op Reply Fixed) (state : M → State) where
  -- a worker's thread was made for a space with these fixed numbers, and made no more steps than it may make
  pub record CanBegin (fixed : Fixed) (w : Worker M) : Type 0 where
    pub made_for : code.fixed (state w.thread.machine) ≡ fixed
    pub is_suited : code.is_suited (state w.thread.machine) ≡ true
    pub below : code.steps (state w.thread.machine) ≤ w.steps
    pub limit : w.steps ≤ MOST_STEPS
    pub places : w.thread.places ≤ code.steps (state w.thread.machine)

  -- the worker of thread t drove it, by own steps with these calls, no further than it may go
  pub record HasWorked (may : ℕ → State → Bool) (t : ℕ) (w : Worker M) (calls : List (Call Op Reply)) (u : Worker M) : Type 0 where
    pub went : Went code (may t) t (state w.thread.machine) [] (state u.thread.machine) calls
    pub places : u.thread.places ≡ w.thread.places + length calls
    pub below : code.steps (state u.thread.machine) ≤ w.steps
