use Rattle.std.proofs.Common.{◌≡◌, ◌-◌, ◌++◌, ◌∷◌, [], ap, sym, arith}
use Rattle.log_pieces.specs.Packed.{behind_read}
use Rattle.log_pieces.specs.Reading.{read_times, read_touch}
use Rattle.log_pieces.proofs.Loop.{goes_on, fails, is_done, whole}
use Rattle.log_pieces.proofs.Passing.{passed_some, passed_none}
use Rattle.log_pieces.proofs.packed.skip_touches.Goals as goal

pub loop-init : goal.loop-init
loop-init c = let all : c.args.count - 0 ≡ c.args.count = omega arith in ([], rw all (whole (read_times c.args.count read_touch c.args.bytes.now)))

pub loop-preserved : goal.loop-preserved
loop-preserved c =
    let found = c.loop.invariant.0 in
    let touch = passed_some (read_touch c.loop.rest.now) c.in-Some.behind.now (sym c.in-Some.ensures) in
    (found ++ touch.0 ∷ [], goes_on read_touch found c.args.count c.loop.counter c.loop.rest.now touch.0 c.in-Some.behind.now (read_times c.args.count read_touch c.args.bytes.now) c.loop-test.true touch.1 c.loop.invariant.1)

pub returns-in-None : goal.returns-in-None
returns-in-None c =
    let none = passed_none (read_touch c.loop.rest.now) (sym c.in-None.ensures) in
    sym (ap behind_read (fails read_touch c.loop.invariant.0 c.args.count c.loop.counter c.loop.rest.now (read_times c.args.count read_touch c.args.bytes.now) c.loop-test.true none c.loop.invariant.1))

pub returns : goal.returns
returns c = sym (ap behind_read (is_done read_touch c.loop.invariant.0 c.args.count c.loop.counter c.loop.rest.now (read_times c.args.count read_touch c.args.bytes.now) c.loop-test.false c.loop.invariant.1))
