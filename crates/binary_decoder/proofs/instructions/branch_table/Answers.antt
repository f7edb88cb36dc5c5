use Rattle.std.proofs.Common.{arith}
use Rattle.binary_decoder.proofs.Loop.{branch_read}
use Rattle.binary_decoder.proofs.instructions.branch_table.Goals as goal

pub returns : goal.returns
returns c =
    branch_read c.args.labels.now.items c.args.cursor.now.rest.now c.unsigned_32.new.self.rest.now c.push_items.new.cursor.rest.now c.unsigned_32-2.new.self.rest.now c.in_ok-count.count c.len-first.result c.in_ok-default.default c.push_items.new.items.items
    c.in_ok-push_items.ensures c.in_ok-count.ensures.value c.in_ok-default.ensures.value (omega (arith, c.len-first.ensures, c.args.labels.now.ok.0))
