-- A plan that suits a well typed module opens a world.
use Rattle.replica.specs.Log.{key_of}
use Rattle.wasm_world.proofs.Plans.{plan_opens}
use Rattle.wasm_replay.proofs.opening.opener_of.Goals as goal

pub returns-then-not-is_of-clause-has_world : goal.returns-then-not-is_of-clause-has_world
returns-then-not-is_of-clause-has_world c = plan_opens c.args.valid.now c.args.plan.now (key_of c.args.log.now).profile c.module-typed.ensures.typed c.requires

pub returns-then-not-fits-clause-has_world : goal.returns-then-not-fits-clause-has_world
returns-then-not-fits-clause-has_world c = plan_opens c.args.valid.now c.args.plan.now (key_of c.args.log.now).profile c.module-typed.ensures.typed c.requires

pub returns-clause-has_world : goal.returns-clause-has_world
returns-clause-has_world c = plan_opens c.args.valid.now c.args.plan.now (key_of c.args.log.now).profile c.module-typed.ensures.typed c.requires
