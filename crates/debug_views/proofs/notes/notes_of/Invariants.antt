use Rattle.std.proofs.Common.{map}
use Rattle.std.specs.Prelude.{string_bytes}
use Rattle.event_core.specs.World.{world_of}
use Rattle.debug_views.proofs.Noting.{AreNotedBelow}
use Rattle.debug_views.proofs.notes.notes_of.Given as goal

-- the threads so far are noted
abbrev pub invariant-loop-thread : goal.invariant-loop-thread
invariant-loop-thread l = AreNotedBelow l.replay.valid.now l.replay.plan.now l.replay.log.now l.replay.order.now l.places (world_of l.world) l.thread (map string_bytes l.notes.items)
