use Rattle.std.proofs.Common.{◌∙◌}
use Rattle.std.specs.Prelude.{string_bytes}
use Rattle.debugger.specs.Locals.{local_line}
use Rattle.debugger.proofs.Numbered.{lines_more}
use Rattle.debugger.proofs.locals.write_locals.Goals as goal

pub loop-number-preserved : goal.loop-number-preserved
loop-number-preserved c = c.in_ok-write_local.ensures ∙ lines_more local_line (string_bytes c.args.text.now) (string_bytes c.loop-number.text) c.loop-number.number c.args.values.now c.loop-number.invariant
