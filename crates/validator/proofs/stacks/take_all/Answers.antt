use Rattle.std.proofs.Common.{reverse, length, refl}
use Rattle.validator.specs.Walk.{pop_all}
use Rattle.validator.proofs.Places.{whole_none, whole_some}
use Rattle.validator.proofs.stacks.take_all.Goals as goal

pub returns-in_default : goal.returns-in_default
returns-in_default c = whole_none (pop_all c.args.block.unreachable (reverse c.args.wants.now)) c.args.block.height c.args.operands.now.items c.as_slice-all.result.now (length c.as_slice-all.result.now) c.below_all.result c.as_slice-all.ensures.value refl c.below_all.ensures c.in_default.is

pub returns : goal.returns
returns c = whole_some (pop_all c.args.block.unreachable (reverse c.args.wants.now)) c.args.block.height c.args.operands.now.items c.as_slice-all.result.now c.truncate.new.self.items (length c.as_slice-all.result.now) c.in-Some.left c.below_all.result c.as_slice-all.ensures.value refl c.below_all.ensures c.in-Some.is c.truncate.ensures.items
