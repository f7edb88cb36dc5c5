use Rattle.replica.specs.Log.{log_of}
use Rattle.wasm_record.specs.Channels.{HasReceived}
use Rattle.wasm_record.proofs.receiving.receive.Given as goal

-- as many pieces were received as there were rounds
abbrev pub invariant-loop-received : goal.invariant-loop-received
invariant-loop-received g l = HasReceived (log_of l.initial.replica) (log_of l.replica) l.received
