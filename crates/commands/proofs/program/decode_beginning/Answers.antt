use Rattle.commands.proofs.Beginnings.{ok, err}
use Rattle.commands.proofs.program.decode_beginning.Goals as goal

pub returns-clause-found : goal.returns-clause-found
returns-clause-found c = ok _ c.decode.result c.decode.ensures.found

pub returns-clause-refused : goal.returns-clause-refused
returns-clause-refused c = err _ c.decode.result c.decode.ensures.first c.decode.ensures.refused c.decode.ensures.too_large
