use Rattle.std.proofs.Common.{◌≡◌, ◌+◌, ◌++◌, length, map}
use Rattle.std.specs.Vec.Iter.{into_iter_items, into_iter_len}
use Rattle.shared_parts.specs.Calls.{AreWithin, calls_of, entries_in}
use Rattle.shared_core.proofs.close.hand_in_all.Given as goal

abbrev pub invariant-loop-seat : goal.invariant-loop-seat
invariant-loop-seat g l =
    let rest = into_iter_items l.seat-iterator in
    let seats = l.fn.seats.items in
    (l.all.parts + length rest ≡ l.fn.all.parts + length seats)
    × (l.all.amount + calls_of rest ≡ l.fn.all.amount + calls_of seats)
    × (AreWithin l.latest rest → AreWithin l.latest seats)
    × (into_iter_len l.seat-iterator ≡ length rest)
    × (l.entries.items ++ map (λ s. entries_in s.calls) rest ≡ map (λ s. entries_in s.calls) seats)
