use Rattle.std.specs.String.{string_bytes}
use Rattle.std.specs.Prelude.{codes}
use Rattle.std.specs.Prelude.{◌+◌, ◌*◌}
use Rattle.replica.specs.Drawing.{attribute, height_of, svg_begin, svg_defs}
use Rattle.replica.proofs.Puts.{three}
use Rattle.replica.proofs.drawing.put_head.Goals as goal

pub returns : goal.returns
returns c =
    rw (c.in_ok-push_str.ensures.bytes, c.in_ok-put_attribute-2.ensures, c.height_of.ensures.value, c.in_ok-put_attribute.ensures, c.from.ensures)
    (three (string_bytes c.args.text.now) (attribute svg_begin (200 * c.args.columns + 240)) (attribute (codes " height=\"") (height_of c.args.lines + 40)) svg_defs)
