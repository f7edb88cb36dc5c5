use Rattle.binary_decoder.specs.Reading.{items_at}
use Rattle.binary_decoder.specs.Reader.{with_front}
use Rattle.binary_decoder.proofs.Loop.{goes_on, ends, is_done}
use Rattle.binary_decoder.proofs.parts.push_items.Goals as goal

pub returns-in-Err : goal.returns-in-Err
returns-in-Err g c =
    rw c.in_item.ensures (ends g.T.Spelled.reading c.in-Err.fault c.loop.items.items c.args.count c.loop.counter c.loop.cursor.rest.now (with_front c.args.items.now.items (items_at g.T.Spelled.reading c.args.count c.args.cursor.now.rest.now)) c.loop-test.true c.in-Err.ensures c.loop.invariant)

pub loop-preserved : goal.loop-preserved
loop-preserved g c =
    rw c.in_ok-push.ensures.items (goes_on g.T.Spelled.reading c.loop.items.items c.args.count c.loop.counter c.loop.cursor.rest.now c.in-Ok.item c.read.new.cursor.rest.now (with_front c.args.items.now.items (items_at g.T.Spelled.reading c.args.count c.args.cursor.now.rest.now)) c.loop-test.true c.in-Ok.ensures c.loop.invariant)

pub returns : goal.returns
returns g c = is_done g.T.Spelled.reading c.loop.items.items c.args.count c.loop.counter c.loop.cursor.rest.now (with_front c.args.items.now.items (items_at g.T.Spelled.reading c.args.count c.args.cursor.now.rest.now)) c.loop-test.false c.loop.invariant
