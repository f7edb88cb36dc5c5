use Rattle.std.proofs.Common.{ℕ, List, inr, subst}
use Rattle.std.specs.Prelude.{string_bytes}
use Rattle.std.proofs.lemmas.Result.{IfOk-weaker, IfErr-weaker}
use Rattle.replica.specs.Log.{log_of}
use Rattle.commands.specs.Replays.{IsReplayReport, IsRefusedBy}
use Rattle.commands.proofs.replay_command.replay.Goals as goal

pub returns-clause-replayed : goal.returns-clause-replayed
returns-clause-replayed g c =
    let m = c.in-Ok.input.program.valid in
    let plan = c.in-Ok.input.program.plan in
    let log = log_of c.in-Ok.input.replica in
    IfOk-weaker c.replay_by.result _ _ (λ text h. record {
      m = m;
      plan = plan;
      log = log;
      input = c.in-Ok.ensures.found;
      report = subst (λ (o : List ℕ). IsReplayReport m plan log o c.args.asked (string_bytes text)) c.deref.ensures.value h;
    }) c.replay_by.ensures.replayed

pub returns-clause-refused : goal.returns-clause-refused
returns-clause-refused g c =
    let m = c.in-Ok.input.program.valid in
    let plan = c.in-Ok.input.program.plan in
    let log = log_of c.in-Ok.input.replica in
    IfErr-weaker c.replay_by.result _ _ (λ fault h. inr (m, plan, log, c.in-Ok.ensures.found, subst (λ (o : List ℕ). IsRefusedBy c.args.by_threads m plan log o fault) c.deref.ensures.value h)) c.replay_by.ensures.refused
