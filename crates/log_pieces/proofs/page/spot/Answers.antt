-- Each pair that is read stands before the place, at it or past it.
use Rattle.std.proofs.Common.{◌≡◌, ◌+◌, ◌-◌, sym, arith}
use Rattle.log_pieces.proofs.Pages.{scan_start, scan_end, skip_reads, skip_past, skip_here, skip_next}
use Rattle.log_pieces.proofs.page.spot.Goals as goal

pub loop-init : goal.loop-init
loop-init g c = let all : c.args.count - 0 ≡ c.args.count = omega arith in rw all (scan_start c.args.at c.requires.page)

pub returns-in-None : goal.returns-in-None
returns-in-None g c = absurd (skip_reads g.met.T.Packed.reads_back (omega arith) c.loop.invariant (sym c.in-None.ensures))

pub returns-then-place-at : goal.returns-then-place-at
returns-then-place-at g c = skip_past g.met.T.Packed.reads_back (omega arith) c.loop.invariant c.in-Some.place c.in-Some.behind.now (sym c.in-Some.ensures) c.if-place-at.true

pub returns-then-place-at-2 : goal.returns-then-place-at-2
returns-then-place-at-2 g c =
    let f = c.found_here.ensures in
    skip_here g.met.T.Packed.reads_back (omega arith) c.loop.invariant c.in-Some.place c.in-Some.behind.now (sym c.in-Some.ensures) c.if-place-at-2.true _ _ _ f.from f.found f.behind

pub loop-preserved : goal.loop-preserved
loop-preserved g c =
    let one : c.args.count - (c.loop.counter + 1) ≡ c.args.count - c.loop.counter - 1 = omega arith in
    rw one (skip_next g.met.T.Packed.reads_back (omega arith) c.loop.invariant c.in-Some.place c.in-Some.behind.now (sym c.in-Some.ensures) (omega arith))

pub returns : goal.returns
returns g c = scan_end c.requires.at (omega arith) c.loop.invariant
