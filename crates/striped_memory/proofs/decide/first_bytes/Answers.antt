use Rattle.striped_memory.proofs.Looks.{first_bytes_are}
use Rattle.striped_memory.proofs.decide.first_bytes.Goals as goal

pub returns-clause-bytes : goal.returns-clause-bytes
returns-clause-bytes c = first_bytes_are c.args.bytes.now c.args.len c.min.result c.min.ensures c.told-bytes
