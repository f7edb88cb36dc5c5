-- What is recorded keeps the rules of pieces.
use Rattle.block_objects.specs.SharedMemory.{shared_memory}
use Rattle.event_core.specs.World.{world_of}
use Rattle.recorder.specs.Picks.{picks_taken}
use Rattle.thread_words.specs.ThreadCode.{thread_code}
use Rattle.wasm_record.proofs.Objects.{recording_keeps}
use Rattle.wasm_record.proofs.recording.record_schedule.Goals as goal

pub invariant_of-result : goal.invariant_of-result
invariant_of-result c =
    let w = world_of c.in_ok-world.world in
    let ps = picks_taken shared_memory thread_code c.args.steps w c.args.picks.now in
    let recorded = c.in_ok-recorded in
    recording_keeps c.args.valid.now c.args.plan.now c.args.block c.of-key.result w ps recorded.recorded.threads c.of-key.ensures.profile c.in_ok-world.ensures.world (record { opening = c.in_ok-world.ensures.opening; run = recorded.ensures.run }) recorded.ensures.log
