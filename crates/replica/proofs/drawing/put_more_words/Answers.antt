use Rattle.std.specs.Prelude.{codes, ◌+◌}
use Rattle.std.specs.String.{string_bytes}
use Rattle.std.specs.Fmt.{decimal}
use Rattle.replica.specs.Drawing.{attribute, height_of}
use Rattle.replica.proofs.Puts.{four}
use Rattle.replica.proofs.drawing.put_more_words.Goals as goal

pub returns : goal.returns
returns c =
    rw (c.in_ok-push_str-2.ensures.bytes, c.in_ok-put_number.ensures, c.in_ok-push_str.ensures.bytes, c.in_ok-put_attribute.ensures, c.height_of.ensures.value)
    (four (string_bytes c.args.text.now) (attribute (codes "<text x=\"10\" y=\"") (height_of c.args.lines + 24)) (codes " fill=\"gray\">") (decimal c.args.more) (codes " more accesses: what they met is not known</text>\n"))
