use Rattle.thread_words.proofs.Safety.{safe}
use Rattle.thread_words.proofs.laws.steps_are_safe.Goals as goal

pub returns : goal.returns
returns c = safe
