use Rattle.std.proofs.Common.{refl}
use Rattle.debug_views.proofs.Writes.{write_of}
use Rattle.debug_views.proofs.breaks.write_break.Goals as goal

pub returns : goal.returns
returns c = write_of c.args.block c.args.from c.args.len c.blocks_of_range-blocks.result _ _ c.blocks_of_range-blocks.ensures.holding refl refl
