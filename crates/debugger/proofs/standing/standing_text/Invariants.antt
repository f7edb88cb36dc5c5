-- the threads so far are written, and then those that are left
use Rattle.std.proofs.Common.{◌≡◌, ◌++◌, drop}
use Rattle.std.specs.Prelude.{string_bytes}
use Rattle.event_core.specs.World.{world_of}
use Rattle.debugger.specs.Replies.{standing_text, thread_lines}
use Rattle.debugger.proofs.standing.standing_text.Given as goal

abbrev pub invariant-loop-thread : goal.invariant-loop-thread
invariant-loop-thread l = string_bytes l.text ++ thread_lines l.places l.thread (drop l.thread (world_of l.world).threads) ≡ standing_text l.places (world_of l.world)
