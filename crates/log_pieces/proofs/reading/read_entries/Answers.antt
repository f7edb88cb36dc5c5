use Rattle.std.proofs.Common.{sym}
use Rattle.log_pieces.specs.Reading.{read_times, read_entry}
use Rattle.log_pieces.proofs.Loop.{goes_on, fails, is_done}
use Rattle.log_pieces.proofs.reading.read_entries.Goals as goal

pub returns-in-None : goal.returns-in-None
returns-in-None c = fails read_entry c.loop.entries.items c.args.count c.loop.counter c.loop.rest.now (read_times c.args.count read_entry c.args.bytes.now) c.loop-test.true (sym c.in-None.ensures) c.loop.invariant

pub loop-preserved : goal.loop-preserved
loop-preserved c =
    rw c.in_ok-push-in-Some.ensures.items (goes_on read_entry c.loop.entries.items c.args.count c.loop.counter c.loop.rest.now c.in-Some.entry c.in-Some.behind.now (read_times c.args.count read_entry c.args.bytes.now) c.loop-test.true (sym c.in-Some.ensures) c.loop.invariant)

pub returns : goal.returns
returns c = is_done read_entry c.loop.entries.items c.args.count c.loop.counter c.loop.rest.now (read_times c.args.count read_entry c.args.bytes.now) c.loop-test.false c.loop.invariant
