-- Where no seat can go on, none can once one has left.
use Rattle.std.proofs.Common.{◌≡◌}
use Rattle.shared_core.proofs.Rests.{none_goes_left}
use Rattle.shared_core.proofs.resting.Resting.leave.Goals as goal

pub returns-clause-stays : goal.returns-clause-stays
returns-clause-stays c = λ length none. rw c.put.ensures (none_goes_left length c.args.self.now.seats.items c.args.seat none)
