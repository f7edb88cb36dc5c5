use Rattle.std.proofs.Common.{inr}
use Rattle.std.proofs.lemmas.Result.{IfOk-weaker, IfErr-weaker}
use Rattle.replica.specs.Log.{log_of}
use Rattle.commands.proofs.trace_command.trace.Goals as goal

pub returns-clause-traced : goal.returns-clause-traced
returns-clause-traced g c = IfOk-weaker c.trace_input.result _ _ (λ text h. record {
  m = c.in-Ok.input.program.valid;
  plan = c.in-Ok.input.program.plan;
  log = log_of c.in-Ok.input.replica;
  input = c.in-Ok.ensures.found;
  trace = h;
}) c.trace_input.ensures.traced

pub returns-clause-refused : goal.returns-clause-refused
returns-clause-refused g c = IfErr-weaker c.trace_input.result _ _ (λ fault h. inr (c.in-Ok.input.program.valid, c.in-Ok.input.program.plan, log_of c.in-Ok.input.replica, c.in-Ok.ensures.found, h)) c.trace_input.ensures.refused
