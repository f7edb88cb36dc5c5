use Rattle.std.proofs.Common.{subst}
use Rattle.shared_parts.specs.Calls.{part_of, IsWithin}
use Rattle.shared_parts.proofs.Grows.{within_later}
use Rattle.shared_core.proofs.close.hand_in.Goals as goal

pub returns-clause-within : goal.returns-clause-within
returns-clause-within g c =
    let inv = c.seat.invariant in
    subst (λ v. IsWithin v.calls (part_of v.thread c.args.latest.now)) c.seat.view_is (within_later c.seat.inside.thread c.seat.inside.calls c.seat.inside.reached c.args.latest.now c.meet.ensures.begins inv.3)
