-- Where no seat rests, none is woken.
use Rattle.std.proofs.Common.{sym, ap}
use Rattle.shared_core.specs.Resting.{wakes}
use Rattle.shared_core.proofs.Rests.{none_awaiting}
use Rattle.shared_core.proofs.resting.Resting.entered.Goals as goal

pub returns-else-self : goal.returns-else-self
returns-else-self c = ap wakes (sym (none_awaiting c.args.length 0 c.args.self.now.seats.items (c.args.self.now.none_rests c.if-self.false)))
