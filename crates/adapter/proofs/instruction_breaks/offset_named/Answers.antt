use Rattle.std.proofs.Common.{arith}
use Rattle.adapter.proofs.References.{behind_letter, stripped, no_zero, no_x}
use Rattle.adapter.proofs.instruction_breaks.offset_named.Goals as goal

pub returns-in_default : goal.returns-in_default
returns-in_default c = no_zero c.args.reference.now (behind_letter 48 (omega arith) c.args.reference.now c.in_default.ensures.cases)

pub returns-in_default-strip_prefix : goal.returns-in_default-strip_prefix
returns-in_default-strip_prefix c =
    no_x c.args.reference.now c.in-Some.behind.now (stripped 48 (omega arith) c.args.reference.now c.in-Some.behind.now c.in-Some.ensures.cases)
    (behind_letter 120 (omega arith) c.in-Some.behind.now c.in_default-strip_prefix.ensures.cases)
