-- The next pair stands past the place, at it or before it.
use Rattle.std.proofs.Common.{◌-◌, arith, sym}
use Rattle.log_pieces.proofs.PlaceByPlace.{read_next, nothing_here, rising_more, same_more, still_ahead}
use Rattle.log_pieces.specs.PackedClaim.{read_pairs}
use Rattle.log_pieces.proofs.runs_cursor.read_at.Goals as goal

pub returns-then-pair-at-clause-found : goal.returns-then-pair-at-clause-found
returns-then-pair-at-clause-found g c =
    let next = read_next g.T.Packed.read c.loop-now.now.left c.loop-now.now.rest.now c.in-Some.pair c.in-Some.behind.now (omega arith) (sym c.in-Some.ensures.taken) in
    nothing_here c.loop-now.invariant c.in-Some.pair (read_pairs g.T.Packed.read (c.loop-now.now.left - 1) c.in-Some.behind.now) next c.if-pair-at.true

pub returns-then-pair-at-2-clause-rising : goal.returns-then-pair-at-2-clause-rising
returns-then-pair-at-2-clause-rising g c =
    let next = read_next g.T.Packed.read c.loop-now.now.left c.loop-now.now.rest.now c.in-Some.pair c.in-Some.behind.now (omega arith) (sym c.in-Some.ensures.taken) in
    rising_more c.loop-now.invariant c.in-Some.pair (read_pairs g.T.Packed.read (c.loop-now.now.left - 1) c.in-Some.behind.now) next

pub returns-then-pair-at-2-clause-ahead : goal.returns-then-pair-at-2-clause-ahead
returns-then-pair-at-2-clause-ahead g c =
    let next = read_next g.T.Packed.read c.loop-now.now.left c.loop-now.now.rest.now c.in-Some.pair c.in-Some.behind.now (omega arith) (sym c.in-Some.ensures.taken) in
    same_more c.loop-now.invariant c.in-Some.pair (read_pairs g.T.Packed.read (c.loop-now.now.left - 1) c.in-Some.behind.now) next

pub loop-now-preserved : goal.loop-now-preserved
loop-now-preserved g c =
    let next = read_next g.T.Packed.read c.loop-now.now.left c.loop-now.now.rest.now c.in-Some.pair c.in-Some.behind.now (omega arith) (sym c.in-Some.ensures.taken) in
    still_ahead c.loop-now.invariant c.in-Some.pair (read_pairs g.T.Packed.read (c.loop-now.now.left - 1) c.in-Some.behind.now) next (omega arith)
