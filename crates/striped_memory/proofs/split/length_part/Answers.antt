use Rattle.std.proofs.Common.{box_value}
use Rattle.striped_memory.proofs.Wholes.{length_is_part}
use Rattle.striped_memory.proofs.split.length_part.Goals as goal

pub returns : goal.returns
returns c = length_is_part c.args.blocks.now c.args.queues.now (box_value c.in_ok-new.field-0) c.pages-pages.result c.in_ok-part.part c.in_ok-new.ensures.ok c.pages-pages.ensures.pages c.in_ok-part.ensures.limits c.in_ok-part.ensures.queues
