use Rattle.std.proofs.Common.{◌≡◌, ◌+◌, length}
use Rattle.shared_parts.specs.Calls.{IsNumbered, AreNew}
use Rattle.shared_core.proofs.opened.seats.Given as goal

abbrev pub invariant-loop-thread : goal.invariant-loop-thread
invariant-loop-thread g l =
    (l.share.parts + l.thread ≡ l.threads + 1) × (l.share.amount ≡ 0) × (length l.seats.items ≡ l.thread) × IsNumbered 0 l.seats.items × AreNew l.seats.items
