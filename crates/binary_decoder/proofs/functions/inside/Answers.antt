use Rattle.std.proofs.Common.{arith}
use Rattle.binary_decoder.proofs.FunctionLaws.{locals_shrink}
use Rattle.binary_decoder.proofs.functions.inside.Goals as goal

pub expr-requires : goal.expr-requires
expr-requires c = omega (arith, c.requires.bytes, locals_shrink c.args.params c.args.cursor.now.rest.now c.in_ok-locals.locals.items c.locals.new.cursor.rest.now c.requires.params c.in_ok-locals.ensures)
