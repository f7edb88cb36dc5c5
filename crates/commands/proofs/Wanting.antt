-- Want of memory refuses a replay in turns and by threads.
use Rattle.std.proofs.Common.{ℕ, List, Bool, true, false}
use Rattle.wasm_types.specs.declared.modules.Module.{Module}
use Rattle.thread_plan.specs.Plans.{PlanValue}
use Rattle.replica.specs.declared.log.Log.{Log}
use Rattle.commands.specs.Replays.{IsRefusedBy}
use Rattle.commands.specs.declared.fault.Fault.TheVariants.{NoMemory}

pub wants_by : (by_threads : Bool) (m : Module) (plan : PlanValue) (log : Log) (order : List ℕ) → IsRefusedBy by_threads m plan log order NoMemory
wants_by true m plan log order = tt
wants_by false m plan log order = tt
