use Rattle.std.specs.String.{string_bytes}
use Rattle.replica.specs.Drawing.{dot_text, words_text}
use Rattle.replica.proofs.Puts.{two}
use Rattle.replica.proofs.drawing.put_line.Goals as goal

pub returns : goal.returns
returns c =
    rw (c.in_ok-put_words.ensures, c.in_ok-put_dot.ensures, c.marks.ensures, c.thread.ensures.value)
    (two (string_bytes c.args.text.now) (dot_text (record { thread = c.args.line.now.thread; line = c.args.number }) c.args.line.now.marks) (words_text c.args.number c.args.line.now))
