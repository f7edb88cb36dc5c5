use Rattle.std.proofs.Common.{◌≡◌, sym, subst}
use Rattle.std.specs.Prelude.{IfOk}
use Rattle.block_objects.specs.SharedMemory.{shared_memory}
use Rattle.wasm_world.specs.Shared.{shared_values}
use Rattle.event_core.specs.Opening.{AllFresh, opening_world}
use Rattle.workers.specs.Recording.{IsRecording}
use Rattle.wasm_record.proofs.memory_recording.record_memory.Goals as goal

pub record_workers-requires-clause-fresh : goal.record_workers-requires-clause-fresh
record_workers-requires-clause-fresh g c κs within =
    subst (λ s. AllFresh g.M.Machine.code g.M.Machine.state s.space.blocks.limits c.args.machines.items) (sym c.new-opened.ensures.0) c.requires.fresh

pub returns : goal.returns
returns g c =
    subst (λ s. IfOk c.record_workers.result (λ recorded. IsRecording shared_memory g.M.Machine.code (λ t s. g.T.Timer.can_expire t (g.M.Machine.nanos_of s)) c.args.steps
    (opening_world g.M.Machine.state s.space.blocks.limits (shared_values s.space.blocks s.space.queues) c.args.machines.items) recorded)) c.new-opened.ensures.0 c.record_workers.ensures
