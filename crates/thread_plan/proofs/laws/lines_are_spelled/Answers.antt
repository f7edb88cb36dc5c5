use Rattle.thread_plan.proofs.SpellingLemmas.{form_is_spelled, spelled_has_form}
use Rattle.thread_plan.proofs.laws.lines_are_spelled.Goals as goal

pub returns : goal.returns
returns c = λ line name arguments. (form_is_spelled line name arguments, spelled_has_form line name arguments)
