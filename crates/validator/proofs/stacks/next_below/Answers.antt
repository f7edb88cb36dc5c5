use Rattle.std.proofs.Common.{refl, arith}
use Rattle.validator.proofs.Places.{any_there}
use Rattle.validator.proofs.stacks.next_below.Goals as goal

pub returns-clause-pops : goal.returns-clause-pops
returns-clause-pops c = any_there c.args.operands.now c.args.count c.args.block.height _ _ c.args.block.unreachable (omega arith) c.requires refl
