use Rattle.std.proofs.Common.{ℕ, List, ap, subst}
use Rattle.adapter_messages.specs.declared.event.Category.TheVariants.{Important}
use Rattle.adapter_messages.specs.declared.event.Event.{Event}
use Rattle.adapter_messages.specs.declared.event.EventKind.TheVariants.{Output}
use Rattle.adapter_messages.specs.Sent.{complaint_of, event_frame}
use Rattle.adapter_messages.proofs.Taken.{err_so, begins_same}
use Rattle.adapter_messages.proofs.answering.refuse.Goals as goal

pub returns-in_err-send_event-clause-begun : goal.returns-in_err-send_event-clause-begun
returns-in_err-send_event-clause-begun g c =
    let n = c.args.number.now in
    let event : List ℕ → Event = λ text. record { seq = n; kind = Output Important text } in
    err_so c.from_residual-in_err-send_event.result
    (begins_same g.W.Sink.takes g.met.W.Sink.takes_more (event_frame (event c.in_ok-new.field-0)) (event_frame (complaint_of n)) c.args.output.now c.send_event.new.output (ap (λ (text : List ℕ). event_frame (event text)) c.in_ok-new.ensures)
    c.in_err-send_event.ensures.begun)

pub returns-clause-sent : goal.returns-clause-sent
returns-clause-sent g c =
    let n = c.args.number.now in
    let event : List ℕ → Event = λ text. record { seq = n; kind = Output Important text } in
    subst (λ (text : List ℕ). g.W.Sink.takes c.args.output.now (event_frame (event text)) c.send_event.new.output) c.in_ok-new.ensures c.in_ok-send_event.ensures.sent
