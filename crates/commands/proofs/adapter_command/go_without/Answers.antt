use Rattle.std.proofs.Common.{[], inl, refl}
use Rattle.adapter.specs.Exchanges.{at_of, IsUnresumed}
use Rattle.adapter.specs.ExchangeFault.TheVariants as exchange
use Rattle.adapter.specs.SendFault.TheVariants as sending
use Rattle.adapter.specs.Replies.{failure}
use Rattle.adapter.specs.Waits.{Waits, holds_back}
use Rattle.adapter.specs.declared.waiting.Waiting.TheVariants.{ForEnd}
use Rattle.commands.proofs.Adapted.{stopped_of}
use Rattle.commands.proofs.adapter_command.go_without.Goals as goal

pub returns-clause-stopped : goal.returns-clause-stopped
returns-clause-stopped g c =
    stopped_of (λ came. g.R.Source.brings c.args.source.now came c.resume-ended.new.source) (λ text. g.W.Sink.takes c.args.output.now text c.resume-ended.new.output)
    (at_of c.resume-ended.new.attendant c.resume-ended.new.number)
    (λ came f text u. IsUnresumed holds_back Waits came (at_of ForEnd c.args.launch.number) (g.R.Source.ended c.resume-ended.new.source) c.args.launch.request (failure c.args.message.now) f text u)
    c.resume-ended.result c.outcome_of.result c.outcome_of.ensures (rw c.in-Ok.ensures at c.resume-ended.ensures.stopped)

pub returns-in-Err-clause-stopped : goal.returns-in-Err-clause-stopped
returns-in-Err-clause-stopped g c = (
  [],
  [],
  g.met.R.Source.brings_nothing c.args.source.now,
  g.met.W.Sink.takes_nothing c.args.output.now,
  (
    exchange.NoMemory,
    refl,
    at_of ForEnd c.args.launch.number,
    inl (sending.NoMemory, refl, record { rest = _; is = refl; none_came = refl; same = refl }),
  ),
)
