use Rattle.std.proofs.Common.{inr}
use Rattle.std.proofs.lemmas.Result.{IfOk-weaker, IfErr-weaker}
use Rattle.commands.proofs.Earlier.{recorded_earlier, order_refused_earlier}
use Rattle.commands.proofs.record_command.record.Goals as goal

pub returns-clause-recorded : goal.returns-clause-recorded
returns-clause-recorded g c = IfOk-weaker c.recorded_by.result _ _ (λ answer h. record {
  m = c.in-Ok.program.valid;
  plan = c.in-Ok.program.plan;
  has_program = c.in-Ok.ensures.found;
  is_recorded = recorded_earlier c.in-Ok.ensures.still_holds c.in-Ok.program.valid c.in-Ok.program.plan c.args.request.now c.args.request.now.order answer h;
}) c.recorded_by.ensures.recorded

pub returns-clause-refused : goal.returns-clause-refused
returns-clause-refused g c =
    IfErr-weaker c.recorded_by.result _ _ (λ fault h. inr (
      c.in-Ok.program.valid,
      c.in-Ok.program.plan,
      c.in-Ok.ensures.found,
      order_refused_earlier c.in-Ok.ensures.still_holds c.in-Ok.ensures.still_fails c.args.request.now c.args.request.now.order fault h,
    )) c.recorded_by.ensures.refused
