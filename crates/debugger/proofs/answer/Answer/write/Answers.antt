use Rattle.std.proofs.Common.{◌∙◌, ◌++◌, ap, sym}
use Rattle.debugger.specs.Answers.{answer_text, body_text}
use Rattle.debugger.proofs.Writing.{on_err, begins_first, begins_behind}
use Rattle.debugger.proofs.answer.Answer.write.Goals as goal

pub returns-in-Ok-clause-begun : goal.returns-in-Ok-clause-begun
returns-in-Ok-clause-begun g c =
    on_err c.write_all-in-Ok.result
    (begins_behind g.W.Sink.takes g.met.W.Sink.takes_more (answer_text c.args.self.now) c.as_bytes.result.now c.as_bytes-in-Ok.result.now c.args.output.now c.write_all.new.sink c.write_all-in-Ok.new.sink
    (ap (λ h. h ++ body_text c.args.self.now.body) (sym (c.as_bytes.ensures.value ∙ c.as_str.ensures.value)) ∙ ap (λ b. c.as_bytes.result.now ++ b) (sym (c.as_bytes-in-Ok.ensures.value ∙ c.body.ensures))) c.in-Ok.ensures.taken)
    c.write_all-in-Ok.ensures.begun

pub returns-in-Err-clause-begun : goal.returns-in-Err-clause-begun
returns-in-Err-clause-begun g c =
    begins_first g.W.Sink.takes g.met.W.Sink.takes_more (answer_text c.args.self.now) c.as_bytes.result.now (body_text c.args.self.now.body) c.args.output.now c.write_all.new.sink
    (ap (λ h. h ++ body_text c.args.self.now.body) (sym (c.as_bytes.ensures.value ∙ c.as_str.ensures.value))) c.in-Err.ensures.begun
