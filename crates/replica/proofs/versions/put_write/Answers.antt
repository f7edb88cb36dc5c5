-- The parts of a text, one behind the other.
use Rattle.std.proofs.Common.{◌≡◌, List, ℕ, [], ◌++◌, append_assoc}
use Rattle.std.specs.Prelude.{◌==◌, ◌||◌, codes, if◌then◌else◌}
use Rattle.replica.specs.Members.{has_thread}
use Rattle.std.specs.String.{string_bytes}
use Rattle.replica.specs.Contradictions.{event_text}
use Rattle.replica.specs.Touched.{event_of}
use Rattle.replica.proofs.versions.put_write.Goals as goal

three : (text a b c : List ℕ) → text ++ a ++ b ++ c ≡ text ++ (a ++ b ++ c)
three text a b c = simp append_assoc

pub returns : goal.returns
returns c =
    rw (c.in_ok-put_unread.ensures, c.contains.ensures, c.in_ok-put_event.ensures, c.at.ensures, c.in_ok-push_str.ensures.bytes)
    (three (string_bytes c.args.text.now) (codes " written by ") (event_text (event_of c.args.touch.now)) (if c.args.version == 1 || has_thread c.args.threads.now c.args.touch.now.thread then [] else codes " unread"))
