use Rattle.std.proofs.Common.{subst}
use Rattle.wreplay_bench.specs.Alone.{IsOpening, alone_of}
use Rattle.wreplay_bench.proofs.Opening.{runs_to}
use Rattle.wreplay_bench.proofs.stages.run_plan.Goals as goal

pub returns : goal.returns
returns c =
    runs_to c.args.valid.now c.args.plan.now 12 (alone_of c.in_ok-alone.alone) (alone_of c.run.new.self) c.in_ok-run.field-0
    (subst (λ block. IsOpening c.args.valid.now c.args.plan.now block (alone_of c.in_ok-alone.alone)) c.block.ensures c.in_ok-alone.ensures.opening) c.in_ok-run.ensures.goes c.in_ok-run.ensures.over c.in_ok-run.ensures.steps c.in_ok-run.ensures.outcome
