use Rattle.std.proofs.lemmas.Result.{IfOk-weaker, IfErr-weaker}
use Rattle.event_core.specs.Opening.{opening_world}
use Rattle.wasm_world.specs.Sound.{thread_of}
use Rattle.wasm_world.specs.Shared.{shared_values}
use Rattle.wasm_replay.specs.Replays.{gathered_log}
use Rattle.threaded_replay.proofs.Ending.{no_memory, end_by_name, fault_by_name}
use Rattle.threaded_replay.proofs.replaying.replay_in.Goals as goal

pub returns-in-Err-clause-refused : goal.returns-in-Err-clause-refused
returns-in-Err-clause-refused g c w opens = no_memory (gathered_log c.args.log.now) w c.no_memory.result.fault c.no_memory.ensures

pub returns-clause-ended : goal.returns-clause-ended
returns-clause-ended g c =
    let b = c.in-Ok.beginning in
    let v = opening_world thread_of b.space.blocks.limits (shared_values b.space.blocks b.space.queues) b.threads.items in
    IfOk-weaker c.replay_memory.result _ _ (λ end h. end_by_name c.args.valid.now c.args.plan.now c.args.profile c.args.log.now c.new.result.log.now v c.in-Ok.ensures.world c.new.ensures end h) c.replay_memory.ensures.ended

pub returns-clause-refused : goal.returns-clause-refused
returns-clause-refused g c =
    let b = c.in-Ok.beginning in
    let v = opening_world thread_of b.space.blocks.limits (shared_values b.space.blocks b.space.queues) b.threads.items in
    IfErr-weaker c.replay_memory.result _ _ (λ r h. fault_by_name c.args.valid.now c.args.plan.now c.args.profile c.args.log.now c.new.result.log.now v c.in-Ok.ensures.world c.new.ensures r.fault h) c.replay_memory.ensures.refused
