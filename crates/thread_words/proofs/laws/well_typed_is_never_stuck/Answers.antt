use Rattle.thread_words.proofs.Reaching.{never_stuck}
use Rattle.thread_words.proofs.laws.well_typed_is_never_stuck.Goals as goal

pub returns : goal.returns
returns c = never_stuck
