use Rattle.std.proofs.Common.{ap, ◌∙◌}
use Rattle.adapter_messages.specs.Frames.{frame_of}
use Rattle.adapter_messages.specs.Sent.{event_frame}
use Rattle.adapter_messages.proofs.Taken.{err_so, begins_same}
use Rattle.adapter_messages.proofs.replying.send_event.Goals as goal

pub returns-in_err-write_frame-clause-begun : goal.returns-in_err-write_frame-clause-begun
unfolding event_frame
returns-in_err-write_frame-clause-begun g c =
    err_so c.from_residual-in_err-write_frame.result
    (begins_same g.W.Sink.takes g.met.W.Sink.takes_more (frame_of c.as_bytes.result.now) (event_frame c.args.event) c.args.output.now c.write_frame.new.sink (ap frame_of (c.as_bytes.ensures.value ∙ c.as_str.ensures.value ∙ c.in_ok-text.ensures))
    c.in_err-write_frame.ensures.begun)
