-- The work of one thread.
use Rattle.std.specs.Prelude.{◌≡◌, ℕ, List}
use Rattle.shared_parts.specs.declared.call.Call.{Call}
use Rattle.shared_parts.specs.Calls.{Part}

-- a seat and what its thread had, and the same seat with its calls and what the thread has then
pub record IsWorked {Op Reply State : Type 0} (leads : ℕ → State → List (Call Op Reply) → State → Type 0) (seat : Part Op Reply) (state : State) (worked : Part Op Reply) (came : State) : Type 0 where
  pub thread : worked.thread ≡ seat.thread
  pub led : leads seat.thread state worked.calls came
