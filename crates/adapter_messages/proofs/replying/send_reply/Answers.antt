use Rattle.std.proofs.Common.{ℕ, ap, ◌++◌, subst}
use Rattle.adapter_messages.proofs.Beginnings.{begins_first, begins_behind}
use Rattle.adapter_messages.specs.Sent.{event_frames, number_after, response_frame}
use Rattle.adapter_messages.proofs.Taken.{err_so, begins_same}
use Rattle.adapter_messages.proofs.replying.send_reply.Goals as goal

pub returns-in_err-send_response-clause-begun : goal.returns-in_err-send_response-clause-begun
returns-in_err-send_response-clause-begun g c =
    let n = c.args.number.now in
    let first = response_frame (record { seq = n; request_seq = c.args.request_seq; command = c.args.command; outcome = c.args.reply.outcome }) in
    err_so c.from_residual.result
    (begins_first g.W.Sink.takes g.met.W.Sink.takes_more first (event_frames (number_after n) c.args.reply.told) c.args.output.now c.send_response.new.output c.in_err-send_response.ensures.begun)

pub returns-in_err-number-clause-begun : goal.returns-in_err-number-clause-begun
returns-in_err-number-clause-begun g c =
    let n = c.args.number.now in
    let told = c.args.reply.told in
    let first = response_frame (record { seq = n; request_seq = c.args.request_seq; command = c.args.command; outcome = c.args.reply.outcome }) in
    err_so c.from_residual-in_err-number.result
    (begins_behind g.W.Sink.takes g.met.W.Sink.takes_more first (event_frames (number_after n) told) c.args.output.now c.send_response.new.output c.send_events.new.output c.in_ok-send_response.ensures.sent
    (begins_same g.W.Sink.takes g.met.W.Sink.takes_more (event_frames c.saturating_add.result told) (event_frames (number_after n) told) c.send_response.new.output c.send_events.new.output (ap (λ (k : ℕ). event_frames k told) c.saturating_add.ensures)
    c.in_err-number.ensures.begun))

pub returns-clause-sent : goal.returns-clause-sent
returns-clause-sent g c =
    let n = c.args.number.now in
    let told = c.args.reply.told in
    let first = response_frame (record { seq = n; request_seq = c.args.request_seq; command = c.args.command; outcome = c.args.reply.outcome }) in
    subst (λ (k : ℕ). g.W.Sink.takes c.args.output.now (first ++ event_frames k told) c.send_events.new.output) c.saturating_add.ensures
    (g.met.W.Sink.takes_more c.args.output.now c.send_response.new.output c.send_events.new.output first (event_frames c.saturating_add.result told) c.in_ok-send_response.ensures.sent c.in_ok-number.ensures.sent)
