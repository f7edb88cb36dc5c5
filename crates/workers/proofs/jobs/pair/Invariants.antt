-- The jobs so far, and the seats and states that are left, are those that were given.
use Rattle.std.proofs.Common.{◌≡◌, ◌++◌, length, map}
use Rattle.std.specs.Vec.Iter.{into_iter_items, into_iter_len}
use Rattle.workers.proofs.jobs.pair.Given as goal

abbrev pub invariant-loop-seat : goal.invariant-loop-seat
invariant-loop-seat g l =
    let seats = into_iter_items l.seat-iterator in
    let states = into_iter_items l.own in
    (map (λ j. j.seat) l.jobs.items ++ seats ≡ l.fn.seats.items)
    × (map (λ j. j.state) l.jobs.items ++ states ≡ l.fn.states.items)
    × (length seats ≡ length states)
    × (into_iter_len l.seat-iterator ≡ length seats)
    × (into_iter_len l.own ≡ length states)
