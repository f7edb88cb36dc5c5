use Rattle.thread_plan.proofs.SuitLemmas.{plan_suits}
use Rattle.thread_plan.proofs.laws.read_plans_suit.Goals as goal

pub returns : goal.returns
returns c = plan_suits
