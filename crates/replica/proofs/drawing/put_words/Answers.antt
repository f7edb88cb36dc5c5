use Rattle.std.specs.Prelude.{codes}
use Rattle.std.specs.String.{string_bytes}
use Rattle.std.specs.Prelude.{◌+◌}
use Rattle.replica.specs.Drawing.{attribute, column_of, height_of, access_text}
use Rattle.replica.proofs.Puts.{five}
use Rattle.replica.proofs.drawing.put_words.Goals as goal

pub returns : goal.returns
returns c =
    rw (c.in_ok-push_str-2.ensures.bytes, c.in_ok-put_access.ensures, c.in_ok-push_str.ensures.bytes, c.in_ok-put_attribute-2.ensures, c.height_of.ensures.value, c.in_ok-put_attribute.ensures, c.column_of.ensures.value, c.thread.ensures.value)
    (five (string_bytes c.args.text.now) (attribute (codes "<text x=\"") (column_of c.args.line.now.thread + 18)) (attribute (codes " y=\"") (height_of c.args.number + 4)) (codes ">") (access_text c.args.line.now) (codes "</text>\n"))
