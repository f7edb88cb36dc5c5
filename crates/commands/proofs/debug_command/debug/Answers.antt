use Rattle.std.proofs.Common.{◌≡◌, ◌+◌}
use Rattle.replica.specs.Log.{log_of}
use Rattle.commands.proofs.Debugged.{shown_of, stopped_of}
use Rattle.commands.proofs.debug_command.debug.Goals as goal

pub returns-clause-done : goal.returns-clause-done
returns-clause-done g c =
    let input = c.in-Ok.input in
    shown_of _ _ _ _ c.args.request.now input.program.valid input.program.plan (log_of input.replica) c.in-Ok.ensures.found _ c.as_slice.ensures.value c.debug_input.result c.debug_input.ensures.of_run c.debug_input.ensures.done

pub returns-clause-stopped : goal.returns-clause-stopped
returns-clause-stopped g c =
    let input = c.in-Ok.input in
    let unused : Type 0 = (c.debug_input.new.source ≡ c.args.source.now) × (c.debug_input.new.output ≡ c.args.output.now) in
    let broke : Type 0 = g.R.Source.failed c.debug_input.new.source ≡ g.R.Source.failed c.args.source.now + 1 in
    let unwritable : Type 0 = g.W.Sink.failed c.debug_input.new.output ≡ g.W.Sink.failed c.args.output.now + 1 in
    stopped_of _ _ _ _ c.args.request.now input.program.valid input.program.plan (log_of input.replica) c.in-Ok.ensures.found _ c.as_slice.ensures.value c.debug_input.result (g.F.Files.fails c.args.files.now) unused broke unwritable c.debug_input.ensures.stopped
