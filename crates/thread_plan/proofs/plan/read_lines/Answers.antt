use Rattle.std.proofs.Common.{◌≡◌, ℕ, ◌+◌, ◌<◌, length, arith, subst}
use Rattle.std.specs.Prelude.{Ok}
use Rattle.std.proofs.lemmas.Result.{err_from_is_err_and}
use Rattle.thread_plan.specs.Threads.{thread_at}
use Rattle.thread_plan.specs.Refusals.{IsFaultOf}
use Rattle.thread_plan.proofs.PlanLemmas.{left_is, read_more, read_faults}
use Rattle.thread_plan.proofs.plan.read_lines.Goals as goal

pub returns-in_err-thread-clause-err : goal.returns-in_err-thread-clause-err
returns-in_err-thread-clause-err c =
    let p = err_from_is_err_and c.from_residual.result c.from_residual.ensures.1 in
    let room : length c.loop-line.threads.items < 16 = omega arith in
    let count : c.len.result ≡ length c.loop-line.threads.items = omega arith in
    rw (p.1, p.2) (read_faults _ _ _ _ _ _ (left_is _ _ _ _ _ _ c.in-Some.ensures c.loop-line.invariant) room (subst (λ (n : ℕ). IsFaultOf (thread_at c.args.valid.now (n + 2) c.in-Some.line.now) c.in_err-thread.field-0.0) count c.in_err-thread.ensures.err))

pub loop-line-preserved : goal.loop-line-preserved
loop-line-preserved c =
    let room : length c.loop-line.threads.items < 16 = omega arith in
    let count : c.len.result ≡ length c.loop-line.threads.items = omega arith in
    rw c.in_ok-push.ensures.items (read_more _ _ _ _ _ _ (left_is _ _ _ _ _ _ c.in-Some.ensures c.loop-line.invariant) room (subst (λ (n : ℕ). thread_at c.args.valid.now (n + 2) c.in-Some.line.now ≡ Ok c.in_ok-thread.thread) count c.in_ok-thread.ensures.ok))
