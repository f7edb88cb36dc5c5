use Rattle.binary_decoder.proofs.ReadNumbers.{unsigned_read, unsigned_unread}
use Rattle.binary_decoder.proofs.cursor.Cursor.unsigned_32.Goals as goal

pub returns-in-Some-clause-value : goal.returns-in-Some-clause-value
returns-in-Some-clause-value c = rw c.skip.ensures (unsigned_read 32 c.args.self.now.rest.now c.in-Some.number c.in-Some.end c.in-Some.ensures.found.2)

pub returns-in-None-clause-value : goal.returns-in-None-clause-value
returns-in-None-clause-value c = rw c.no_number.ensures (unsigned_unread 32 c.args.self.now.rest.now c.in-None.ensures.none)
