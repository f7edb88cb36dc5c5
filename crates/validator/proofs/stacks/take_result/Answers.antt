use Rattle.std.proofs.Common.{length, refl}
use Rattle.validator.specs.Table.{seq}
use Rattle.validator.specs.Walk.{pop_all}
use Rattle.validator.proofs.Places.{whole_some, result_alone}
use Rattle.validator.proofs.stacks.take_result.Goals as goal

pub returns : goal.returns
returns c =
    result_alone c.args.block c.args.operands.now.items c.truncate.new.self.items c.in-Some.left c.if-left-block.false c.truncate.ensures.items
    (whole_some (pop_all c.args.block.unreachable (seq c.args.block.result)) c.args.block.height c.args.operands.now.items c.as_slice.result.now _ (length c.as_slice.result.now) c.in-Some.left c.below_result.result c.as_slice.ensures.value refl c.below_result.ensures.pops c.in-Some.is refl)
