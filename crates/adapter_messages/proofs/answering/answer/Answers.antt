use Rattle.std.proofs.Common.{Err, refl, ap, ◌∙◌, sym, true}
use Rattle.adapter_messages.specs.Exchanges.{at_of, IsNoRequest, IsRequest}
use Rattle.adapter_messages.specs.Sent.{complaint_of, event_frame, number_after, number_behind_reply, reply_text}
use Rattle.adapter_messages.proofs.Turning.{refused, begun, attended, turn_begun, turn_unattended}
use Rattle.adapter_messages.proofs.answering.answer.Goals as goal

pub returns-in_err-refuse-in-Err-NotARequest-clause-turn : goal.returns-in_err-refuse-in-Err-NotARequest-clause-turn
returns-in_err-refuse-in-Err-NotARequest-clause-turn g c =
    let content = c.args.content.now in
    let state = g.A.Attend.state c.args.attendant.now in
    let n = c.args.number.now in
    let u = at_of state c.refuse.new.number in
    let none : IsNoRequest content = c.read_request.ensures.none (c.in-Err-NotARequest.is ∙ ap Err c.in-Err-NotARequest.field-0-is) in
    let h = c.in_err-refuse-in-Err-NotARequest.ensures in
    let part = h.begun in
    turn_begun g.A.Attend.holds_back g.A.Attend.attends content (at_of state n) (λ text. g.W.Sink.takes c.args.output.now text c.refuse.new.output) u c.from_residual.result _ part.0 c.from_residual.ensures.1
    (begun g.A.Attend.holds_back g.A.Attend.attends content (at_of state n) true (event_frame (complaint_of n)) part.0 part.1 (at_of state (number_after n)) u (refused g.A.Attend.holds_back g.A.Attend.attends content state n none) part.2 refl h.same)
    part.3

pub returns-in_err-reply-clause-turn : goal.returns-in_err-reply-clause-turn
returns-in_err-reply-clause-turn g c =
    let request = c.in-Ok.request in
    let is_request : IsRequest c.args.content.now c.in-Ok.request = record { is_text = c.in-Ok.ensures.text; is = c.in-Ok.ensures.request } in
    turn_unattended g.A.Attend.holds_back g.A.Attend.attends c.args.content.now request is_request (g.A.Attend.state c.args.attendant.now) (g.A.Attend.state c.attend.new.self) c.args.number.now (sym c.waits_for.ensures ∙ c.if-waits_for.false)
    (λ text. g.W.Sink.takes c.args.output.now text c.args.output.now) c.from_residual-in_err-reply.result c.from_residual-in_err-reply.ensures.1 c.in_err-reply.ensures.wanting (g.met.W.Sink.takes_nothing c.args.output.now)

pub returns-in_err-send_reply-clause-turn : goal.returns-in_err-send_reply-clause-turn
returns-in_err-send_reply-clause-turn g c =
    let content = c.args.content.now in
    let request = c.in-Ok.request in
    let is_request : IsRequest c.args.content.now c.in-Ok.request = record { is_text = c.in-Ok.ensures.text; is = c.in-Ok.ensures.request } in
    let s = g.A.Attend.state c.args.attendant.now in
    let t = g.A.Attend.state c.attend.new.self in
    let n = c.args.number.now in
    let reply = c.in_ok-reply.reply in
    let u = at_of t c.send_reply.new.number in
    let h = c.in_err-send_reply.ensures in
    let part = h.begun in
    turn_begun g.A.Attend.holds_back g.A.Attend.attends content (at_of s n) (λ text. g.W.Sink.takes c.args.output.now text c.send_reply.new.output) u c.from_residual-in_err-send_reply.result _ part.0 c.from_residual-in_err-send_reply.ensures.1
    (begun g.A.Attend.holds_back g.A.Attend.attends content (at_of s n) reply.goes_on (reply_text n request.seq request.name reply) part.0 part.1 (at_of t (number_behind_reply n reply)) u
    (attended g.A.Attend.holds_back g.A.Attend.attends content request is_request s t n (sym c.waits_for.ensures ∙ c.if-waits_for.false) reply c.in_ok-reply.ensures.attends) part.2 refl h.same)
    part.3
