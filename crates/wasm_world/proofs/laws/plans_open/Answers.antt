use Rattle.wasm_world.proofs.Plans.{plan_opens}
use Rattle.wasm_world.proofs.laws.plans_open.Goals as goal

pub returns : goal.returns
returns c = plan_opens
