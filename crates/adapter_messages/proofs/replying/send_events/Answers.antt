use Rattle.std.proofs.Common.{refl}
use Rattle.std.specs.Option.{option_to_list}
use Rattle.adapter_messages.proofs.Beginnings.{on_ok, on_err}
use Rattle.adapter_messages.specs.Sent.{event_frames, number_behind}
use Rattle.adapter_messages.proofs.EventFrames.{three_frames}
use Rattle.adapter_messages.proofs.Taken.{err_so, in_first, in_second, in_third, all_three}
use Rattle.adapter_messages.proofs.replying.send_events.Goals as goal

pub returns-in_err-number-clause-begun : goal.returns-in_err-number-clause-begun
returns-in_err-number-clause-begun g c =
    let t = c.told.inside in
    let n = c.args.number in
    let a = option_to_list t.first in
    let b = option_to_list t.second in
    let d = option_to_list t.third in
    let m = number_behind n a in
    let k = number_behind m b in
    err_so c.from_residual.result
    (in_first g.W.Sink.takes g.met.W.Sink.takes_more (event_frames n a) (event_frames m b) (event_frames k d) (event_frames n c.args.told) (three_frames n m k c.args.told a b d c.told.view_is refl refl) c.args.output.now
    c.send_some.new.output c.in_err-number.ensures.begun)

pub returns-in_err-number-2-clause-begun : goal.returns-in_err-number-2-clause-begun
returns-in_err-number-2-clause-begun g c =
    let t = c.told.inside in
    let n = c.args.number in
    let a = option_to_list t.first in
    let b = option_to_list t.second in
    let d = option_to_list t.third in
    let one = c.in_ok-number.ensures in
    let m = c.in_ok-number.number in
    let k = number_behind m b in
    err_so c.from_residual-in_err-number-2.result
    (in_second g.W.Sink.takes g.met.W.Sink.takes_more (event_frames n a) (event_frames m b) (event_frames k d) (event_frames n c.args.told) (three_frames n m k c.args.told a b d c.told.view_is one.next refl) c.args.output.now
    c.send_some.new.output c.send_some-2.new.output one.sent c.in_err-number-2.ensures.begun)

pub returns-clause-sent : goal.returns-clause-sent
returns-clause-sent g c =
    let t = c.told.inside in
    let n = c.args.number in
    let a = option_to_list t.first in
    let b = option_to_list t.second in
    let d = option_to_list t.third in
    let one = c.in_ok-number.ensures in
    let two = c.in_ok-number-2.ensures in
    let m = c.in_ok-number.number in
    let k = c.in_ok-number-2.number in
    on_ok c.send_some-3.result
    (all_three g.W.Sink.takes g.met.W.Sink.takes_more (event_frames n a) (event_frames m b) (event_frames k d) (event_frames n c.args.told) (three_frames n m k c.args.told a b d c.told.view_is one.next two.next) c.args.output.now
    c.send_some.new.output c.send_some-2.new.output c.send_some-3.new.output one.sent two.sent) c.send_some-3.ensures.sent

pub returns-clause-begun : goal.returns-clause-begun
returns-clause-begun g c =
    let t = c.told.inside in
    let n = c.args.number in
    let a = option_to_list t.first in
    let b = option_to_list t.second in
    let d = option_to_list t.third in
    let one = c.in_ok-number.ensures in
    let two = c.in_ok-number-2.ensures in
    let m = c.in_ok-number.number in
    let k = c.in_ok-number-2.number in
    on_err c.send_some-3.result
    (in_third g.W.Sink.takes g.met.W.Sink.takes_more (event_frames n a) (event_frames m b) (event_frames k d) (event_frames n c.args.told) (three_frames n m k c.args.told a b d c.told.view_is one.next two.next) c.args.output.now
    c.send_some.new.output c.send_some-2.new.output c.send_some-3.new.output one.sent two.sent) c.send_some-3.ensures.begun
