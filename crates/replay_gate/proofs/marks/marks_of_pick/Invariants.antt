-- The touches so far are marked.
use Rattle.std.proofs.Common.{◌≡◌, length, map, take}
use Rattle.event_core.specs.World.{world_of}
use Rattle.replay_gate.specs.Marks.{mark_of}
use Rattle.replay_gate.proofs.marks.marks_of_pick.Given as goal

abbrev pub invariant-loop-touch : goal.invariant-loop-touch
invariant-loop-touch g l = record {
  marks : l.marks ≡ map (mark_of (world_of l.world).memory.counts) (take l.touch-index l.touch-items);
  some : length l.marks ≡ l.touch-index;
}
