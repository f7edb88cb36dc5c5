use Rattle.thread_words.proofs.Threads.{threads_safe}
use Rattle.thread_words.proofs.laws.threads_are_safe.Goals as goal

pub returns : goal.returns
returns c = threads_safe
