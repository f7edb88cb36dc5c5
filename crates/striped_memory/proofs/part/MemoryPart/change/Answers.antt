use Rattle.std.proofs.Common.{◌≡◌, ◌≢◌, ◌/◌, ◌-◌, ℕ, sym, ap, arith}
use Rattle.rw_objects.specs.declared.touch.Mode.TheVariants.{Write}
use Rattle.block_objects.specs.Objects.{Queue}
use Rattle.block_objects.specs.Touches.{op_touches}
use Rattle.memory_parts.specs.SharedCut.{action_changed}
use Rattle.striped_memory.specs.MemoryParts.{queues_held}
use Rattle.striped_memory.proofs.Ranges.{set_is, written_below}
use Rattle.striped_memory.proofs.Items.{block_here, queue_here, last_here, length_set}
use Rattle.striped_memory.proofs.part.MemoryPart.change.Goals as goal

pub change-requires-clause-here : goal.change-requires-clause-here
change-requires-clause-here c =
    block_here c.args.self.now c.args.op.now c.args.object c.requires.fits c.power-from_6_to_12.ensures.greatest c.requires.lane
    (λ n. written_below (op_touches c.args.op.now) c.args.object n Write c.requires.written) c.in-Blocks.part c.in-Blocks.is

pub change_queue-requires-clause-here : goal.change_queue-requires-clause-here
change_queue-requires-clause-here c =
    queue_here c.args.self.now c.args.op.now c.args.object c.requires.fits c.power-from_6_to_12.ensures.greatest c.requires.lane
    (λ n. written_below (op_touches c.args.op.now) c.args.object n Write c.requires.written) c.in-Queues.part c.in-Queues.is

pub returns-in-Queues-clause-held : goal.returns-in-Queues-clause-held
returns-in-Queues-clause-held c =
    rw c.in-Queues.is (set_is (queues_held c.in-Queues.part.queues) (queues_held c.change_queue.new.queues) (c.args.object / 8) _ (sym c.change_queue.ensures.there) (λ j ne. ap Queue (c.change_queue.ensures.others j ne)))

pub returns-else-place-eq0-clause-held : goal.returns-else-place-eq0-clause-held
returns-else-place-eq0-clause-held c =
    let some : c.args.object / 8 ≢ 0 = c.if-place-eq0.false in
    rw c.in-Length.is (length_set c.in-Length.pages c.in-Length.part.queues c.change_queue-else-place-eq0.new.queues (c.args.object / 8) some c.change_queue-else-place-eq0.ensures.others
    (action_changed c.args.op.now.extent c.args.op.now.action c.args.decision.now c.args.object) c.change_queue-else-place-eq0.ensures.there)
