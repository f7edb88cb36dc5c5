use Rattle.std.specs.Int.{w64}
use Rattle.std.proofs.lemmas.Int.{to_z-of_z}
use Rattle.binary_decoder.proofs.ReadNumbers.{signed_read, signed_unread}
use Rattle.binary_decoder.proofs.cursor.Cursor.signed_64.Goals as goal

pub returns-in-Some-clause-value : goal.returns-in-Some-clause-value
returns-in-Some-clause-value c = rw (c.skip.ensures, to_z-of_z w64 c.in-Some.number (search)) (signed_read 64 c.args.self.now.rest.now c.in-Some.number c.in-Some.end c.in-Some.ensures.found.2)

pub returns-in-None-clause-value : goal.returns-in-None-clause-value
returns-in-None-clause-value c = rw c.no_number.ensures (signed_unread 64 c.args.self.now.rest.now c.in-None.ensures.none)
