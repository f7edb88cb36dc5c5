-- A stop on the way to a place is at a break of the list, or at none.
use Rattle.std.proofs.Common.{List}
use Rattle.std.proofs.lemmas.Option.{slice_get_within}
use Rattle.wasm_world.specs.SharedMemory.{shared_memory}
use Rattle.wasm_world.specs.Opening.{WasmWorld}
use Rattle.wasm_world.specs.ThreadCode.{thread_code}
use Rattle.replay_laws.specs.Log.{Log}
use Rattle.replay_gate.specs.declared.breaks.Break.{Break}
use Rattle.replay_gate.specs.declared.breaks.Stopped.{Stopped}
use Rattle.replay_gate.specs.declared.breaks.Stopped.TheVariants as stopped
use Rattle.replay_session.specs.declared.legs.Leg.{Leg}
use Rattle.replay_session.specs.Reaching.{GoesTo}
use Rattle.debugger.specs.Replies.{IsStopOf}

pub stop_reached : (log : Log) (opened : WasmWorld) (breaks : List Break) (w v : WasmWorld) (old legs : List Leg) (s : Stopped) → GoesTo shared_memory thread_code log opened breaks w v old legs s → IsStopOf s breaks
stop_reached log opened breaks w v old legs (stopped.Break index) h = let first = h.0.stops.0 in slice_get_within breaks index first.one first.is
stop_reached log opened breaks w v old legs stopped.Finished h = tt
stop_reached log opened breaks w v old legs stopped.Stuck h = tt
stop_reached log opened breaks w v old legs (stopped.Fault f) h = tt
