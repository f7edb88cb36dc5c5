use Rattle.std.proofs.Common.{sym, subst}
use Rattle.std.specs.Prelude.{IfOk, IfErr}
use Rattle.block_objects.specs.SharedMemory.{shared_memory}
use Rattle.wasm_world.specs.Shared.{shared_values}
use Rattle.event_core.specs.Opening.{AllFresh, opening_world}
use Rattle.replay_gate.specs.Finished.{IsReplayEnd, IsReplayFault}
use Rattle.threaded_replay.proofs.memory_replay.replay_memory.Goals as goal

pub replay_by_threads-requires-clause-fresh : goal.replay_by_threads-requires-clause-fresh
replay_by_threads-requires-clause-fresh g c κs within =
    subst (λ s. AllFresh g.M.Machine.code g.M.Machine.state s.space.blocks.limits c.args.machines.items) (sym c.new-opened.ensures.0) c.requires.fresh

pub returns-clause-ended : goal.returns-clause-ended
returns-clause-ended g c =
    subst (λ s. IfOk c.replay_by_threads.result (IsReplayEnd shared_memory g.M.Machine.code (g.L.ReadLog.log c.args.log.now)
    (opening_world g.M.Machine.state s.space.blocks.limits (shared_values s.space.blocks s.space.queues) c.args.machines.items))) c.new-opened.ensures.0 c.replay_by_threads.ensures.ended

pub returns-clause-refused : goal.returns-clause-refused
returns-clause-refused g c =
    subst (λ s. IfErr c.replay_by_threads.result (λ r. IsReplayFault shared_memory g.M.Machine.code (g.L.ReadLog.log c.args.log.now)
    (opening_world g.M.Machine.state s.space.blocks.limits (shared_values s.space.blocks s.space.queues) c.args.machines.items) r.fault)) c.new-opened.ensures.0 c.replay_by_threads.ensures.refused
