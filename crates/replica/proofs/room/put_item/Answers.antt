-- The parts of a line, one behind the other.
use Rattle.std.proofs.Common.{append_assoc}
use Rattle.replica.proofs.room.put_item.Goals as goal

pub returns-clause-text : goal.returns-clause-text
returns-clause-text c =
    rw (c.put-3.ensures, c.put_objects.ensures.text, c.put_claim.ensures.text, c.put-2.ensures, c.put_number-2.ensures.text, c.put.ensures, c.put_number.ensures.text) (simp append_assoc)
