use Rattle.std.proofs.Common.{ap, ◌∙◌}
use Rattle.wasm_types.specs.Memories.{block_power}
use Rattle.replica.specs.Log.{log_of, key_of}
use Rattle.commands.proofs.Viewed.{fault_of}
use Rattle.commands.proofs.view_command.view_input.Goals as goal

pub returns-in-Err-Replay-clause-refused : goal.returns-in-Err-Replay-clause-refused
returns-in-Err-Replay-clause-refused c =
    fault_of c.args.input.now.program.valid c.args.input.now.program.plan (log_of c.args.input.now.replica) c.log-log.result.now c.args.request.now c.memory_limits-block.result.block c.breaks_of-breaks.result.items c.deref-2.result.now c.deref.result.now c.in-Err-Replay.field-0 _ c.in-Err-Replay.field-0-is
    c.log-log.ensures c.deref.ensures.value c.deref-2.ensures.0 (ap (λ l. l.block) c.memory_limits-block.ensures ∙ ap (λ k. block_power k.profile) (c.key.ensures ∙ ap (λ l. key_of l) c.log-log.ensures)) c.breaks_of-breaks.ensures c.in-Err-Replay.ensures.refused

pub returns-in-Err-View-clause-refused : goal.returns-in-Err-View-clause-refused
returns-in-Err-View-clause-refused c =
    fault_of c.args.input.now.program.valid c.args.input.now.program.plan (log_of c.args.input.now.replica) c.log-log.result.now c.args.request.now c.memory_limits-block.result.block c.breaks_of-breaks.result.items c.deref-2.result.now c.deref.result.now c.in-Err-View.field-0 _ c.in-Err-View.field-0-is
    c.log-log.ensures c.deref.ensures.value c.deref-2.ensures.0 (ap (λ l. l.block) c.memory_limits-block.ensures ∙ ap (λ k. block_power k.profile) (c.key.ensures ∙ ap (λ l. key_of l) c.log-log.ensures)) c.breaks_of-breaks.ensures c.in-Err-View.ensures.refused
