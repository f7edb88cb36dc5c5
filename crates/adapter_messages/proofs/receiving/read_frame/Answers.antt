use Rattle.adapter_messages.proofs.Received.{whole, left}
use Rattle.adapter_messages.proofs.receiving.read_frame.Goals as goal

pub returns-in-Err-read_content-clause-stopped : goal.returns-in-Err-read_content-clause-stopped
returns-in-Err-read_content-clause-stopped g c =
    let h = rw c.in-Ok-Some.field-0-is at c.in-Ok-Some.ensures in
    left g.R.Source.brings g.met.R.Source.brings_more c.args.source.now c.read_header.new.source c.read_content.new.source (g.R.Source.ended c.read_content.new.source) c.in-Ok-Some.length c.in-Err-read_content.fault h.0.lines h.0.header h.0.came
    c.in-Err-read_content.ensures.0

pub returns-in-Ok-clause-frame : goal.returns-in-Ok-clause-frame
returns-in-Ok-clause-frame g c =
    let h = rw c.in-Ok-Some.field-0-is at c.in-Ok-Some.ensures in
    let k = c.in-Ok.ensures in
    whole g.R.Source.brings g.met.R.Source.brings_more c.args.source.now c.read_header.new.source c.read_content.new.source c.in-Ok-Some.length c.in-Ok.content.items h.0.lines h.0.header h.0.came k.0 k.1
