-- The parts of a line, one behind the other.
use Rattle.std.proofs.Common.{◌≡◌, ℕ, List, ◌++◌, append_assoc}
use Rattle.std.specs.Prelude.{codes}
use Rattle.std.specs.Fmt.{decimal}
use Rattle.replica.specs.Contradictions.{event_text}
use Rattle.replica.proofs.contradictions.put_double.Goals as goal

-- eight texts put one by one are put together
eight : (room a b c d e f g h : List ℕ) → room ++ a ++ b ++ c ++ d ++ e ++ f ++ g ++ h ≡ room ++ (a ++ b ++ c ++ d ++ e ++ f ++ g ++ h)
eight room a b c d e f g h = simp append_assoc

pub returns-clause-text : goal.returns-clause-text
returns-clause-text c =
    rw (c.put_event-2.ensures.text, c.put-4.ensures, c.put_event.ensures.text, c.put-3.ensures, c.put_number-2.ensures.text, c.put-2.ensures, c.put_number.ensures.text, c.from.ensures, c.put.ensures)
    (eight c.args.room.now (codes "double w") (decimal c.args.object) (codes "@") (decimal c.args.version) (codes " ") (event_text c.args.first) (codes " ") (event_text c.args.second))
