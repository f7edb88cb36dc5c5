use Rattle.std.proofs.Common.{[], ◌∷◌, arith}
use Rattle.event_core.specs.World.{world_of}
use Rattle.replay_gate.specs.OneStop.{HadMemory}
use Rattle.replay_gate.specs.declared.breaks.Break.TheVariants as break
use Rattle.debug_views.proofs.AtStep.{at_some}
use Rattle.debug_views.proofs.Stopping.{stops_of}
use Rattle.debug_views.proofs.replays.replay_to_step.Goals as goal
use Rattle.debug_views.proofs.replays.replay_to_step.Goals.{in_default-run_to-via-in-Fault+in_default, in_default-run_to-via-in_default}

pub returns-clause-stands : goal.returns-clause-stands
returns-clause-stands c =
    let m = c.args.replay.now.valid.now in
    let plan = c.args.replay.now.plan.now in
    let log = c.args.replay.now.log.now in
    let order = c.args.replay.now.order.now in
    let v = world_of c.run_to.new.replay.world in
    let had : HadMemory c.run_to.result = elim c.in_default-run_to.branch [ in_default-run_to-via-in-Fault+in_default w ↦ λ e. grind arith | in_default-run_to-via-in_default w ↦ λ e. grind arith ] in
    at_some m plan log order c.args.thread v c.args.steps (λ e. grind arith) c.run_to.result
    (stops_of m plan log c.in-Ok.again.log.log.now order (break.Step c.args.thread c.args.steps ∷ []) (world_of c.in-Ok.again.world) v c.run_to.result c.run_to.ensures.stops c.in-Ok.ensures.log c.in-Ok.ensures.world) had
