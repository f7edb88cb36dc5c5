-- The next entry is there, and is passed.
use Rattle.std.proofs.Common.{arith}
use Rattle.log_pieces.proofs.Packing.{is_passed, passed_behind, behind_within}
use Rattle.log_pieces.proofs.reader.pass_entries.Goals as goal

pub loop-init : goal.loop-init
loop-init c = c.requires.packed.spelled

pub unreachable-requires : goal.unreachable-requires
unreachable-requires c = is_passed c.args.left c.loop.counter c.args.bytes.now c.loop.rest.now c.requires.packed (omega arith) c.loop.invariant c.in-None.ensures

pub loop-preserved : goal.loop-preserved
loop-preserved c = passed_behind c.args.left c.loop.counter c.args.bytes.now c.loop.rest.now c.requires.packed (omega arith) c.loop.invariant c.in-Some.behind.now c.in-Some.ensures

pub returns-clause-within : goal.returns-clause-within
returns-clause-within c = behind_within c.args.left c.loop.counter c.args.bytes.now c.loop.rest.now c.requires.packed c.loop.invariant
