use Rattle.std.proofs.Common.{inl, inr}
use Rattle.adapter.specs.State.{state_of}
use Rattle.commands.specs.Adapts.{IsReplayAnswered, IsReplayBroken}
use Rattle.replica.specs.Log.{log_of}
use Rattle.commands.proofs.Adapted.{done_so, stopped_so}
use Rattle.commands.proofs.adapter_command.go_in.Goals as goal

pub returns-in-Ok-clause-done : goal.returns-in-Ok-clause-done
returns-in-Ok-clause-done g c =
    done_so (λ came. g.R.Source.brings c.args.source.now came c.go_with.new.source) (λ text. g.W.Sink.takes c.args.output.now text c.go_with.new.output) _
    (λ came text. IsReplayAnswered came (g.R.Source.ended c.go_with.new.source) c.args.launch.request c.args.launch.number c.args.input.now.program.valid c.args.input.now.program.plan (log_of c.args.input.now.replica) text)
    c.go_with.result (λ came text h. inl (state_of c.in-Ok.adapter, c.in-Ok.ensures.of_run, c.in-Ok.ensures.opened, h.0, h.1, h.2)) c.go_with.ensures.done

pub returns-in-Ok-clause-stopped : goal.returns-in-Ok-clause-stopped
returns-in-Ok-clause-stopped g c =
    stopped_so (λ came. g.R.Source.brings c.args.source.now came c.go_with.new.source) (λ text. g.W.Sink.takes c.args.output.now text c.go_with.new.output) _
    (λ fault came text. IsReplayBroken came (g.R.Source.ended c.go_with.new.source) c.args.launch.request c.args.launch.number fault c.args.input.now.program.valid c.args.input.now.program.plan (log_of c.args.input.now.replica) text)
    c.go_with.result (λ fault came text h. inl (state_of c.in-Ok.adapter, c.in-Ok.ensures.of_run, c.in-Ok.ensures.opened, h.0, h.1, h.2, h.3)) c.go_with.ensures.stopped

pub returns-in-Err-clause-done : goal.returns-in-Err-clause-done
returns-in-Err-clause-done g c =
    done_so (λ came. g.R.Source.brings c.args.source.now came c.go_without.new.source) (λ text. g.W.Sink.takes c.args.output.now text c.go_without.new.output) _
    (λ came text. IsReplayAnswered came (g.R.Source.ended c.go_without.new.source) c.args.launch.request c.args.launch.number c.args.input.now.program.valid c.args.input.now.program.plan (log_of c.args.input.now.replica) text)
    c.go_without.result (λ came text h. inr (c.in-Err.fault, c.in-Err.ensures.refused, h.0, h.1, h.2)) (rw (c.as_str.ensures.value, c.text.ensures.text) at c.go_without.ensures.done)

pub returns-in-Err-clause-stopped : goal.returns-in-Err-clause-stopped
returns-in-Err-clause-stopped g c =
    stopped_so (λ came. g.R.Source.brings c.args.source.now came c.go_without.new.source) (λ text. g.W.Sink.takes c.args.output.now text c.go_without.new.output) _
    (λ fault came text. IsReplayBroken came (g.R.Source.ended c.go_without.new.source) c.args.launch.request c.args.launch.number fault c.args.input.now.program.valid c.args.input.now.program.plan (log_of c.args.input.now.replica) text)
    c.go_without.result (λ fault came text h. inr (c.in-Err.fault, c.in-Err.ensures.refused, h.0, h.1, h.2, h.3)) (rw (c.as_str.ensures.value, c.text.ensures.text) at c.go_without.ensures.stopped)
