use Rattle.thread_words.proofs.Threads.{threads_go_on}
use Rattle.thread_words.proofs.laws.threads_go_on.Goals as goal

pub returns : goal.returns
returns c = threads_go_on
