use Rattle.std.proofs.Common.{box_value}
use Rattle.striped_memory.proofs.Wholes.{blocks_are_part}
use Rattle.striped_memory.proofs.split.block_part.Goals as goal

pub returns : goal.returns
returns c = blocks_are_part c.args.blocks.now c.args.queues.now (box_value c.in_ok-new.field-0) c.in_ok-part.part c.args.row c.in_ok-new.ensures.ok c.in_ok-part.ensures.row c.in_ok-part.ensures.limits c.in_ok-part.ensures.blocks
