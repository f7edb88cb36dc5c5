use Rattle.std.proofs.Common.{◌≡◌, ◌*◌, length, drop, replicate}
use Rattle.block_objects.specs.Memory.{with_segments}
use Rattle.block_objects.proofs.blocks.Blocks.new.Given as goal

abbrev pub invariant-loop-segment : goal.invariant-loop-segment
invariant-loop-segment l = record {
  size : length l.bytes.items ≡ l.limits.capacity * 65536;
  written : with_segments (drop l.segment-index l.segments) l.bytes.items ≡ with_segments l.segments (replicate (l.limits.capacity * 65536) 0);
}
