-- The blocks up to the present length are the bytes at that length.
use Rattle.std.proofs.Common.{refl}
use Rattle.block_objects.proofs.Image.{image_is}
use Rattle.waiter_queues.specs.Shared.{queue_at}
use Rattle.waiter_queues.proofs.space.SharedSpace.bytes.Goals as goal

pub returns : goal.returns
returns c = rw (image_is c.args.self.now.blocks (queue_at c.args.self.now.queues) c.limits-sound.ensures.sound, c.pages.ensures.pages, c.bytes.ensures.bytes) refl
