use Rattle.std.proofs.Common.{refl, arith}
use Rattle.validator.proofs.Places.{one_there}
use Rattle.validator.proofs.stacks.below_one.Goals as goal

pub returns-then-suits-clause-pops : goal.returns-then-suits-clause-pops
returns-then-suits-clause-pops c = one_there c.args.operands.now c.args.count c.args.block.height _ _ c.args.block.unreachable c.args.want c.suits.result (omega arith) c.requires refl c.suits.ensures c.if-suits.true
