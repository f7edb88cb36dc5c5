use Rattle.std.proofs.Common.{Bool, sym, subst}
use Rattle.std.proofs.lemmas.Result.{IfOk-weaker, IfErr-weaker}
use Rattle.replica.specs.Log.{log_of}
use Rattle.commands.specs.Replays.{IsRefusedBy}
use Rattle.commands.proofs.replay_command.end_by.Goals as goal

pub returns-then-by_threads-clause-ends : goal.returns-then-by_threads-clause-ends
returns-then-by_threads-clause-ends g c = IfOk-weaker c.end_at_once.result _ _ (λ end h. h c.args.order.now) c.end_at_once.ensures.ends

pub returns-then-by_threads-clause-refused : goal.returns-then-by_threads-clause-refused
returns-then-by_threads-clause-refused g c =
    let input = c.args.input.now in
    IfErr-weaker c.end_at_once.result _ _
    (λ fault h. subst (λ (b : Bool). IsRefusedBy b input.program.valid input.program.plan (log_of input.replica) c.args.order.now fault) (sym c.if-by_threads.true) h) c.end_at_once.ensures.refused

pub returns-else-by_threads-clause-refused : goal.returns-else-by_threads-clause-refused
returns-else-by_threads-clause-refused g c =
    let input = c.args.input.now in
    IfErr-weaker c.end_in_turns.result _ _
    (λ fault h. subst (λ (b : Bool). IsRefusedBy b input.program.valid input.program.plan (log_of input.replica) c.args.order.now fault) (sym c.if-by_threads.false) h) c.end_in_turns.ensures.refused
