use Rattle.std.proofs.lemmas.Result.{IfOk-weaker}
use Rattle.wreplay_bench.proofs.stages.run_bytes.Goals as goal

pub returns-in-Ok : goal.returns-in-Ok
returns-in-Ok c = IfOk-weaker c.run_module.result _ _ (λ ended h. (c.in-Ok.module, h.0, c.in-Ok.ensures.found.0, h.1, h.2)) c.run_module.ensures
