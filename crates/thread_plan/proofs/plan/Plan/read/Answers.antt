use Rattle.std.proofs.Common.{◌≡◌, rules}
use Rattle.std.specs.Prelude.{Ok}
use Rattle.thread_plan.specs.Plans.{plan_of}
use Rattle.thread_plan.proofs.SuitLemmas.{plan_suits}
use Rattle.thread_plan.proofs.plan.Plan.read.Goals as goal

pub returns-clause-suits : goal.returns-clause-suits
returns-clause-suits c =
    let e : plan_of c.args.valid.now c.args.bytes.now ≡ Ok (record { bytes = c.in_ok-bytes.bytes.items; threads = c.in_ok-threads.threads.items }) = search rules in
    plan_suits c.args.valid.now c.args.bytes.now _ e
