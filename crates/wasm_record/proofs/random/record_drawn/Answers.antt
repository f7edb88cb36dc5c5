-- What is recorded keeps the rules of pieces.
use Rattle.event_core.specs.World.{world_of}
use Rattle.recorder.specs.Stretches.{picks_in}
use Rattle.wasm_record.proofs.Objects.{recording_keeps}
use Rattle.wasm_record.proofs.random.record_drawn.Goals as goal

pub invariant_of-result : goal.invariant_of-result
invariant_of-result g c =
    let w = world_of c.in_ok-world.world in
    let recorded = c.in_ok-recorded in
    recording_keeps c.args.valid.now c.args.plan.now c.args.block c.of-key.result w (picks_in recorded.ensures.stretches) recorded.recorded.threads c.of-key.ensures.profile c.in_ok-world.ensures.world
    (record { opening = c.in_ok-world.ensures.opening; run = recorded.ensures.run }) recorded.ensures.log
