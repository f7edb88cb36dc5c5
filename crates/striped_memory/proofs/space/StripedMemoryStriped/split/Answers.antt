use Rattle.std.proofs.Common.{subst}
use Rattle.block_objects.specs.Memory.{IsSound}
use Rattle.waiter_queues.specs.Shared.{queue_at}
use Rattle.memory_parts.proofs.Sound.{values_sound}
use Rattle.striped_memory.proofs.space.StripedMemoryStriped.split.Goals as goal

pub returns-clause-sound : goal.returns-clause-sound
returns-clause-sound c = values_sound c.args.self.space.blocks (queue_at c.args.self.space.queues) (subst IsSound c.into_parts-blocks.ensures.blocks c.limits-sound.ensures.sound)
