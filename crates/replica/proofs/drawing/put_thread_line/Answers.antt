use Rattle.std.specs.Prelude.{codes}
use Rattle.std.specs.String.{string_bytes}
use Rattle.replica.specs.Drawing.{attribute, column_of}
use Rattle.replica.proofs.Puts.{four}
use Rattle.replica.proofs.drawing.put_thread_line.Goals as goal

pub returns : goal.returns
returns c =
    rw (c.in_ok-push_str.ensures.bytes, c.in_ok-put_attribute-3.ensures, c.in_ok-put_attribute-2.ensures, c.column_of-2.ensures.value, c.in_ok-put_attribute.ensures, c.column_of.ensures.value)
    (four (string_bytes c.args.text.now) (attribute (codes "<line x1=\"") (column_of c.args.thread)) (attribute (codes " y1=\"30\" x2=\"") (column_of c.args.thread)) (attribute (codes " y2=\"") c.args.height) (codes " stroke=\"lightgray\"/>\n"))
