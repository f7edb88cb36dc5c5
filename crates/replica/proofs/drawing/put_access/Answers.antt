use Rattle.std.specs.String.{string_bytes}
use Rattle.std.specs.Prelude.{true}
use Rattle.replica.specs.Contradictions.{event_text}
use Rattle.replica.specs.Drawing.{marks_text}
use Rattle.replica.proofs.Puts.{two}
use Rattle.replica.proofs.drawing.put_access.Goals as goal

pub returns : goal.returns
returns c =
    rw (c.in_ok-put_marks.ensures, c.marks.ensures, c.in_ok-put_event.ensures, c.thread.ensures.value, c.place.ensures)
    (two (string_bytes c.args.text.now) (event_text (record { thread = c.args.line.now.thread; place = c.args.line.now.place })) (marks_text true c.args.line.now.marks))
