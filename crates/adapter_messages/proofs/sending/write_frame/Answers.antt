use Rattle.std.proofs.Common.{ℕ, List, ◌∙◌, subst}
use Rattle.adapter_messages.proofs.Beginnings.{Begins, on_ok, on_err, begins_first, begins_behind}
use Rattle.adapter_messages.proofs.sending.write_frame.Goals as goal

pub returns-in-Ok-clause-taken : goal.returns-in-Ok-clause-taken
returns-in-Ok-clause-taken g c =
    let header = c.as_bytes.ensures.value ∙ c.as_str.ensures.value ∙ c.header_of-header.ensures in
    let first = subst (λ (h : List ℕ). g.W.Sink.takes c.args.sink.now h c.write_all.new.sink) header c.in-Ok.ensures.taken in
    on_ok c.write_all-in-Ok.result (g.met.W.Sink.takes_more c.args.sink.now c.write_all.new.sink c.write_all-in-Ok.new.sink _ c.args.content.now first) c.write_all-in-Ok.ensures.taken

pub returns-in-Ok-clause-begun : goal.returns-in-Ok-clause-begun
returns-in-Ok-clause-begun g c =
    let header = c.as_bytes.ensures.value ∙ c.as_str.ensures.value ∙ c.header_of-header.ensures in
    let first = subst (λ (h : List ℕ). g.W.Sink.takes c.args.sink.now h c.write_all.new.sink) header c.in-Ok.ensures.taken in
    on_err c.write_all-in-Ok.result (begins_behind g.W.Sink.takes g.met.W.Sink.takes_more _ c.args.content.now c.args.sink.now c.write_all.new.sink c.write_all-in-Ok.new.sink first) c.write_all-in-Ok.ensures.begun

pub returns-in-Err-clause-begun : goal.returns-in-Err-clause-begun
returns-in-Err-clause-begun g c =
    let header = c.as_bytes.ensures.value ∙ c.as_str.ensures.value ∙ c.header_of-header.ensures in
    let begun = subst (λ (h : List ℕ). Begins g.W.Sink.takes g.met.W.Sink.takes_more h c.args.sink.now c.write_all.new.sink) header c.in-Err.ensures.begun in
    begins_first g.W.Sink.takes g.met.W.Sink.takes_more _ c.args.content.now c.args.sink.now c.write_all.new.sink begun
