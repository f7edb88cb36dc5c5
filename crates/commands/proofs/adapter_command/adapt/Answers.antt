use Rattle.commands.proofs.Adapted.{done_behind, stopped_behind}
use Rattle.commands.proofs.adapter_command.adapt.Goals as goal

pub returns-in-Ok-HeldBack-clause-done : goal.returns-in-Ok-HeldBack-clause-done
returns-in-Ok-HeldBack-clause-done g c =
    done_behind g.R.Source.brings g.met.R.Source.brings_more g.W.Sink.takes g.met.W.Sink.takes_more c.args.source.now c.exchange.new.source c.go_on.new.source c.args.output.now c.exchange.new.output c.go_on.new.output
    c.in-Ok-HeldBack.request _ (rw c.in-Ok-HeldBack.field-0-is at c.in-Ok-HeldBack.ensures.ended)
    (g.R.Source.ended c.go_on.new.source) (g.F.Files.holds c.args.files.now) (g.F.Files.fails c.args.files.now) c.go_on.result c.go_on.ensures.done

pub returns-in-Ok-HeldBack-clause-stopped : goal.returns-in-Ok-HeldBack-clause-stopped
returns-in-Ok-HeldBack-clause-stopped g c =
    stopped_behind g.R.Source.brings g.met.R.Source.brings_more g.W.Sink.takes g.met.W.Sink.takes_more c.args.source.now c.exchange.new.source c.go_on.new.source c.args.output.now c.exchange.new.output c.go_on.new.output
    c.in-Ok-HeldBack.request _ (rw c.in-Ok-HeldBack.field-0-is at c.in-Ok-HeldBack.ensures.ended)
    (g.R.Source.ended c.go_on.new.source) (g.F.Files.holds c.args.files.now) (g.F.Files.fails c.args.files.now) c.go_on.result c.go_on.ensures.stopped
