use Rattle.std.proofs.Common.{◌≡◌, ◌≢◌, ◌/◌, ℕ}
use Rattle.block_objects.specs.Touches.{op_touches}
use Rattle.striped_memory.proofs.Ranges.{touched_below}
use Rattle.striped_memory.proofs.Items.{queue_here, last_here}
use Rattle.striped_memory.proofs.part.MemoryPart.look.Goals as goal

pub at-requires : goal.at-requires
at-requires c =
    queue_here c.args.self.now c.args.op.now c.args.object c.requires.fits c.power-from_6_to_12.ensures.greatest c.requires.lane
    (λ n. touched_below (op_touches c.args.op.now) c.args.object n c.requires.touched) c.in-Queues.part c.in-Queues.is
