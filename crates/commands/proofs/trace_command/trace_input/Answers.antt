use Rattle.std.proofs.Common.{◌∙◌}
use Rattle.replica.specs.Log.{log_of}
use Rattle.commands.proofs.Traced.{trace_of}
use Rattle.commands.proofs.trace_command.trace_input.Goals as goal

pub returns-in-Ok-clause-traced : goal.returns-in-Ok-clause-traced
returns-in-Ok-clause-traced c =
    trace_of c.args.input.now.program.valid c.args.input.now.program.plan (log_of c.args.input.now.replica) c.log.result.now c.args.request.now c.deref.result.now c.deref-2.result.now _ _
    c.log.ensures c.deref.ensures.value (c.deref-2.ensures.0 ∙ c.last_break-breaks.ensures) (c.choice_of.ensures c.args.input.now.program.valid) c.in-Ok.ensures.of_run c.in-Ok.ensures.traced
