use Rattle.std.proofs.Common.{false}
use Rattle.adapter.specs.Exchanges.{at_of, IsUnresumed}
use Rattle.adapter.specs.Attends.{Attends}
use Rattle.adapter.specs.State.{state_of}
use Rattle.adapter.specs.Waits.{launched_reply}
use Rattle.commands.proofs.Adapted.{stopped_of}
use Rattle.commands.proofs.adapter_command.go_with.Goals as goal

pub returns-clause-stopped : goal.returns-clause-stopped
returns-clause-stopped g c =
    stopped_of (λ came. g.R.Source.brings c.args.source.now came c.resume-ended.new.source) (λ text. g.W.Sink.takes c.args.output.now text c.resume-ended.new.output)
    (at_of (state_of c.resume-ended.new.attendant) c.resume-ended.new.number)
    (λ came f text u. IsUnresumed (λ c s. false) Attends came (at_of (state_of c.args.adapter) c.args.launch.number) (g.R.Source.ended c.resume-ended.new.source) c.args.launch.request launched_reply f text u)
    c.resume-ended.result c.outcome_of.result c.outcome_of.ensures (rw c.launched.ensures at c.resume-ended.ensures.stopped)
