use Rattle.std.specs.Prelude.{codes}
use Rattle.std.specs.String.{string_bytes}
use Rattle.std.specs.Fmt.{decimal}
use Rattle.replica.specs.Drawing.{attribute, column_of}
use Rattle.replica.proofs.Puts.{four}
use Rattle.replica.proofs.drawing.put_thread_head.Goals as goal

pub returns : goal.returns
returns c =
    rw (c.in_ok-push_str-2.ensures.bytes, c.in_ok-put_number.ensures, c.in_ok-push_str.ensures.bytes, c.in_ok-put_attribute.ensures, c.column_of.ensures.value)
    (four (string_bytes c.args.text.now) (attribute (codes "<text x=\"") (column_of c.args.thread)) (codes " y=\"20\">thread ") (decimal c.args.thread) (codes "</text>\n"))
