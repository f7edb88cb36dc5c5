use Rattle.std.proofs.Common.{length, reverse, arith}
use Rattle.binary_decoder.specs.Reader.{expr_at}
use Rattle.binary_decoder.proofs.Loop.{instrs_go_on, instrs_bad, instrs_fail, instrs_done, instrs_out, full_when, none_when}
use Rattle.binary_decoder.proofs.InstrLaws.{labels_fit}
use Rattle.binary_decoder.proofs.instructions.expr.Goals as goal

pub returns-then-is_empty : goal.returns-then-is_empty
returns-then-is_empty c =
    instrs_done c.loop.instrs.items c.loop.labels.items (length c.args.cursor.now.rest.now) c.loop.counter (reverse c.loop.blocks.items) c.loop.cursor.rest.now (expr_at c.args.cursor.now.rest.now) c.loop.invariant.1 (none_when c.loop.blocks c.if-is_empty.ensures)

pub returns-then-is_empty-2 : goal.returns-then-is_empty-2
returns-then-is_empty-2 c =
    instrs_done c.loop.instrs.items c.loop.labels.items (length c.args.cursor.now.rest.now) c.loop.counter (reverse c.loop.blocks.items) c.loop.cursor.rest.now (expr_at c.args.cursor.now.rest.now) c.loop.invariant.1 (none_when c.loop.blocks c.if-is_empty-2.ensures)

pub returns : goal.returns
returns c = rw (c.in_instruction-2.ensures, c.refusal-fault.ensures) (instrs_out c.loop.instrs.items c.loop.labels.items (length c.args.cursor.now.rest.now) c.loop.counter (reverse c.loop.blocks.items) c.loop.cursor.rest.now (expr_at c.args.cursor.now.rest.now) c.loop.invariant.1 (rw c.rest-end.ensures at c.loop-test.false) (full_when c.loop.blocks c.if-is_empty-2.ensures))

pub returns-in-Err : goal.returns-in-Err
returns-in-Err c =
    rw c.in_instruction.ensures (instrs_fail c.loop.instrs.items c.loop.labels.items (length c.args.cursor.now.rest.now) c.loop.counter (reverse c.loop.blocks.items) c.loop.cursor.rest.now (expr_at c.args.cursor.now.rest.now) c.loop.invariant.1 c.in-Err.fault (rw c.rest-end.ensures at c.loop-test.true) (full_when c.loop.blocks c.if-is_empty.ensures) c.in-Err.ensures)

pub returns-then-not-branch : goal.returns-then-not-branch
returns-then-not-branch c =
    let step = rw c.if-not-branch.true at c.in_ok-follow.ensures in
    rw (c.in_instruction-then-not-branch.ensures, c.refused-fault.ensures) (instrs_bad c.loop.instrs.items c.loop.labels.items (length c.args.cursor.now.rest.now) c.loop.counter (reverse c.loop.blocks.items) c.loop.cursor.rest.now (expr_at c.args.cursor.now.rest.now) c.loop.invariant.1 c.in-Ok.instr c.instruction.new.labels.items c.instruction.new.cursor.rest.now (rw c.rest-end.ensures at c.loop-test.true) (full_when c.loop.blocks c.if-is_empty.ensures) c.in-Ok.ensures step)

pub loop-preserved : goal.loop-preserved
loop-preserved c =
    let step = rw c.if-not-branch.false at c.in_ok-follow.ensures in (
      omega (arith, c.loop.invariant.0, labels_fit c.loop.labels.items c.loop.cursor.rest.now c.in-Ok.instr c.instruction.new.labels.items c.instruction.new.cursor.rest.now c.in-Ok.ensures),
      rw c.in_ok-push-2.ensures.items (instrs_go_on c.loop.instrs.items c.loop.labels.items (length c.args.cursor.now.rest.now) c.loop.counter (reverse c.loop.blocks.items) c.loop.cursor.rest.now (expr_at c.args.cursor.now.rest.now) c.loop.invariant.1 c.in-Ok.instr c.instruction.new.labels.items c.instruction.new.cursor.rest.now (reverse c.follow.new.blocks.items) (rw c.rest-end.ensures at c.loop-test.true) (full_when c.loop.blocks c.if-is_empty.ensures) c.in-Ok.ensures step),
    )
