use Rattle.std.proofs.Common.{arith}
use Rattle.log_pieces.proofs.Packing.{is_read, read_behind, one_more_read}
use Rattle.log_pieces.proofs.reader.read_entries.Goals as goal

pub loop-init : goal.loop-init
loop-init c = record { entries = c.in_ok-entries.ensures.items; behind = c.requires.packed.spelled }

pub unreachable-requires : goal.unreachable-requires
unreachable-requires c = is_read c.args.left c.loop.counter c.args.bytes.now c.loop.rest.now c.requires.packed (omega arith) c.loop.invariant.behind c.in_default.ensures

pub loop-preserved : goal.loop-preserved
loop-preserved c = record {
  entries = one_more_read c.args.left c.loop.counter c.args.bytes.now c.loop.rest.now c.requires.packed (omega arith) c.loop.invariant.behind c.in-Some.entry c.in-Some.behind.now c.loop.entries.items c.push.new.self.items c.in-Some.ensures c.loop.invariant.entries c.in_ok-push.ensures.items;
  behind = read_behind c.args.left c.loop.counter c.args.bytes.now c.loop.rest.now c.requires.packed (omega arith) c.loop.invariant.behind c.in-Some.entry c.in-Some.behind.now c.in-Some.ensures;
}
