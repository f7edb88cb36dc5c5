-- What a seat knew of its calls it knows of the whole journal.
use Rattle.std.proofs.Common.{subst}
use Rattle.shared_parts.specs.Calls.{IsWithin, part_of}
use Rattle.shared_parts.proofs.Grows.{within_later}
use Rattle.shared_parts.proofs.seat.Seat.stands_in.Goals as goal

pub returns : goal.returns
returns g c =
    subst (λ s. IsWithin s.calls (part_of s.thread c.args.journal.now)) c.self.view_is
    (within_later c.self.inside.thread c.self.inside.calls c.self.inside.reached c.args.journal.now c.meet.ensures.begins c.self.invariant.3)
