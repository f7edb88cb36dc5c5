use Rattle.std.proofs.Common.{arith}
use Rattle.binary_decoder.proofs.OffsetItems.{locals_fit}
use Rattle.binary_decoder.proofs.code_parts.push_content.Goals as goal

pub push_instructions-requires : goal.push_instructions-requires
push_instructions-requires c =
    omega (arith, c.requires, locals_fit c.args.content.now.rest.now c.in-Ok.field-0 c.vector.new.cursor.rest.now c.in-Ok.ensures)
