-- the numbers so far are seen
use Rattle.std.proofs.Common.{◌≡◌, map, take}
use Rattle.event_core.specs.World.{world_of}
use Rattle.debugger.specs.Watches.{seen_now}
use Rattle.debugger.proofs.watching.seen_now.Given as goal

abbrev pub invariant-loop-watched : goal.invariant-loop-watched
invariant-loop-watched l = l.seen.items ≡ map (seen_now (world_of l.world)) (take l.watched-index l.watches)
