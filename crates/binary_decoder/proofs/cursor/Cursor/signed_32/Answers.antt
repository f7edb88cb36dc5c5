use Rattle.std.proofs.Common.{rules}
use Rattle.std.specs.Int.{w32, w64}
use Rattle.std.proofs.lemmas.Int.{to_z-of_z}
use Rattle.binary_decoder.proofs.ReadNumbers.{signed_read, signed_unread}
use Rattle.binary_decoder.proofs.cursor.Cursor.signed_32.Goals as goal

pub returns-in-Some-clause-value : goal.returns-in-Some-clause-value
returns-in-Some-clause-value c = rw (c.skip.ensures, to_z-of_z w64 c.in-Some.number (search), to_z-of_z w32 c.in-Some.number (search rules)) (signed_read 32 c.args.self.now.rest.now c.in-Some.number c.in-Some.end c.in-Some.ensures.found.2)

pub returns-in-None-clause-value : goal.returns-in-None-clause-value
returns-in-None-clause-value c = rw c.no_number.ensures (signed_unread 32 c.args.self.now.rest.now c.in-None.ensures.none)
