use Rattle.std.proofs.Common.{◌-◌, refl, false, true, take, arith}
use Rattle.validator.proofs.Popping.{pops_one_more, pops_no_more}
use Rattle.validator.proofs.Places.{all_from_nothing, not_all}
use Rattle.validator.proofs.stacks.below_all.Goals as goal

pub loop-at-preserved : goal.loop-at-preserved
loop-at-preserved c = (
  omega (arith, c.in-Some.ensures.within),
  pops_one_more c.args.wants.now (c.loop-at.at - 1) c.loop-at.at _ c.args.block.unreachable c.args.block.height true true (take c.args.count c.args.operands.now) (take c.loop-at.left c.args.operands.now) (take c.in-Some.next c.args.operands.now)
      c.loop-at-test.true c.loop-at.auto.at refl c.loop-at.invariant.1 c.in-Some.ensures.pops refl,
)

pub returns-then-block : goal.returns-then-block
returns-then-block c = all_from_nothing c.args.wants.now c.loop-at.at c.args.block.unreachable c.args.block.height c.args.operands.now c.args.count c.loop-at.left c.loop-at-test.true c.loop-at.auto.at (omega arith) c.if-block.true c.loop-at.invariant.1

pub returns-else-block : goal.returns-else-block
returns-else-block c = not_all c.args.wants.now c.loop-at.at c.args.block.unreachable c.args.block.height c.args.operands.now c.args.count c.loop-at.left c.loop-at-test.true c.loop-at.auto.at (omega arith) c.if-block.false c.loop-at.invariant.1

pub returns-in_default : goal.returns-in_default
returns-in_default c =
    pops_no_more c.args.wants.now (c.loop-at.at - 1) c.args.block.unreachable c.args.block.height (take c.args.count c.args.operands.now) (take c.loop-at.left c.args.operands.now)
    (pops_one_more c.args.wants.now (c.loop-at.at - 1) c.loop-at.at _ c.args.block.unreachable c.args.block.height false false (take c.args.count c.args.operands.now) (take c.loop-at.left c.args.operands.now) (take c.loop-at.left c.args.operands.now)
    c.loop-at-test.true c.loop-at.auto.at refl c.loop-at.invariant.1 c.in_default.ensures.pops refl)
