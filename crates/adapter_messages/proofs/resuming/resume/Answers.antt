use Rattle.std.proofs.Common.{ℕ, List, ap}
use Rattle.adapter_messages.specs.Exchanges.{at_of, IsUnresumed}
use Rattle.adapter_messages.specs.Failures.{unsent}
use Rattle.adapter_messages.specs.declared.exchanging.ExchangeFault.{ExchangeFault}
use Rattle.adapter_messages.proofs.Behind.{resumed, broken_behind, reply_cut}
use Rattle.adapter_messages.proofs.Going.{err_is}
use Rattle.adapter_messages.proofs.resuming.resume.Goals as goal

pub returns-in_err-send_reply-clause-stopped : goal.returns-in_err-send_reply-clause-stopped
returns-in_err-send_reply-clause-stopped g c =
    let start = at_of (g.A.Attend.state c.args.attendant.now) c.args.number.now in
    let u = at_of (g.A.Attend.state c.args.attendant.now) c.send_reply.new.number in
    let f = c.in_err-send_reply.field-0.0 in
    let cut = c.in_err-send_reply.ensures.begun in
    err_is (λ (fault : ExchangeFault). (came text : List ℕ) × g.R.Source.brings c.args.source.now came c.args.source.now × g.W.Sink.takes c.args.output.now text c.send_reply.new.output
    × IsUnresumed g.A.Attend.holds_back g.A.Attend.attends came start (g.R.Source.ended c.args.source.now) c.args.request c.args.reply fault text u)
    c.from_residual.result (unsent f) c.from_residual.ensures.1
    (reply_cut g.A.Attend.holds_back g.A.Attend.attends g.W.Sink.takes g.met.W.Sink.takes_more start (g.R.Source.ended c.args.source.now) c.args.request c.args.reply (λ came. g.R.Source.brings c.args.source.now came c.args.source.now)
    c.args.output.now c.args.output.now c.send_reply.new.output u f cut.0 cut.1 cut.2 cut.3 (g.met.R.Source.brings_nothing c.args.source.now) (ap (at_of (g.A.Attend.state c.args.attendant.now)) c.in_err-send_reply.ensures.same))

pub returns-clause-ended : goal.returns-clause-ended
returns-clause-ended g c =
    let start = at_of (g.A.Attend.state c.args.attendant.now) c.args.number.now in
    let u = at_of (g.A.Attend.state c.exchange.new.attendant) c.exchange.new.number in
    resumed g.A.Attend.holds_back g.A.Attend.attends g.W.Sink.takes g.met.W.Sink.takes_more start (g.R.Source.ended c.exchange.new.source) c.args.request c.args.reply (λ came. g.R.Source.brings c.args.source.now came c.exchange.new.source)
    c.args.output.now c.send_reply.new.output c.exchange.new.output u c.exchange.result c.in_ok-send_reply.ensures.sent
    (rw c.in_ok-send_reply.ensures.next at c.exchange.ensures.ended)

pub returns-clause-stopped : goal.returns-clause-stopped
returns-clause-stopped g c =
    let start = at_of (g.A.Attend.state c.args.attendant.now) c.args.number.now in
    let u = at_of (g.A.Attend.state c.exchange.new.attendant) c.exchange.new.number in
    broken_behind g.A.Attend.holds_back g.A.Attend.attends g.W.Sink.takes g.met.W.Sink.takes_more start (g.R.Source.ended c.exchange.new.source) c.args.request c.args.reply (λ came. g.R.Source.brings c.args.source.now came c.exchange.new.source)
    c.args.output.now c.send_reply.new.output c.exchange.new.output u c.exchange.result c.in_ok-send_reply.ensures.sent
    (rw c.in_ok-send_reply.ensures.next at c.exchange.ensures.stopped)
