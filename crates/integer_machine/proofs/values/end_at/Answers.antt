use Rattle.std.proofs.Common.{length}
use Rattle.integer_machine.specs.Frames.{levels_of}
use Rattle.integer_machine.proofs.Frames.{end_inner}
use Rattle.integer_machine.proofs.values.end_at.Goals as goal

pub returns : goal.returns
returns c = end_inner (length c.args.m.now.words.items) (levels_of c.args.m.now) c.args.depth c.in_ok-inner.inner.now c.if-depth-eq0.false c.in_ok-inner.ensures
