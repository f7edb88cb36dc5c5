use Rattle.std.proofs.Common.{rules}
use Rattle.waiter_queues.proofs.space.SharedSpace.act_by_touches.Goals as goal

pub returns-clause-after : goal.returns-clause-after
returns-clause-after c = record { values = search rules; limits = search rules; counts = search rules; len = search rules }
