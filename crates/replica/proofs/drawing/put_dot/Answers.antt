use Rattle.std.specs.Prelude.{codes}
use Rattle.std.specs.String.{string_bytes}
use Rattle.replica.specs.Drawing.{point_text, dot_of, has_unread, has_write}
use Rattle.replica.proofs.Puts.{two}
use Rattle.replica.proofs.drawing.put_dot.Goals as goal

pub returns : goal.returns
returns c =
    rw (c.in_ok-push_str.ensures.bytes, c.dot_of.ensures, c.has_unread.ensures, c.has_write.ensures, c.in_ok-put_point.ensures)
    (two (string_bytes c.args.text.now) (point_text (codes "<circle cx=\"") (codes " cy=\"") c.args.at) (dot_of (has_unread c.args.marks.now) (has_write c.args.marks.now)))
