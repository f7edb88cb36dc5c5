use Rattle.std.proofs.Common.{arith}
use Rattle.validator.proofs.Stacking.{label_there, no_label}
use Rattle.validator.proofs.stacks.TypeStacks.block_at.Goals as goal

pub returns-then-above-len : goal.returns-then-above-len
returns-then-above-len c = label_there c.args.self.now c.args.label c.len-then-above-len.result c.index.result.now _ (omega arith) (omega arith) c.index.ensures

pub returns-else-above-len : goal.returns-else-above-len
returns-else-above-len c = no_label c.args.self.now c.args.label (omega arith)
