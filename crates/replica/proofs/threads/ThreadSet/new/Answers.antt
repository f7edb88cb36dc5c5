use Rattle.replica.proofs.Members.{none_has}
use Rattle.replica.proofs.threads.ThreadSet.new.Goals as goal

pub returns : goal.returns
returns c thread = none_has 16 thread
