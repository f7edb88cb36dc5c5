use Rattle.std.proofs.Common.{subst}
use Rattle.std.proofs.lemmas.Result.{IfOk-weaker}
use Rattle.replica.specs.declared.log.Log.{Log}
use Rattle.commands.specs.Replays.{IsReplayEnd}
use Rattle.commands.proofs.replay_command.end_at_once.Goals as goal

pub returns-clause-ends : goal.returns-clause-ends
returns-clause-ends g c =
    let program = c.args.input.now.program in
    IfOk-weaker c.end_by_threads.result _ _ (λ end h order. subst (λ (l : Log). IsReplayEnd program.valid program.plan l order end) c.log.ensures (h order)) c.end_by_threads.ensures.ends
