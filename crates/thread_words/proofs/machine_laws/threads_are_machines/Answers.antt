use Rattle.thread_words.proofs.Machine.{threads_are_machines}
use Rattle.thread_words.proofs.machine_laws.threads_are_machines.Goals as goal

pub returns : goal.returns
returns c = threads_are_machines
