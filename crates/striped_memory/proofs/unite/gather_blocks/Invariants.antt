use Rattle.std.proofs.Common.{◌≡◌, ℕ, ◌*◌, ◌^◌, ◌<◌, length}
use Rattle.block_objects.specs.Objects.{block_bytes}
use Rattle.striped_memory.specs.Quarters.{dealt}
use Rattle.striped_memory.proofs.unite.gather_blocks.Given as goal

abbrev pub invariant-loop-index : goal.invariant-loop-index
invariant-loop-index l = record {
  long : length l.bytes.items ≡ l.index * 2 ^ l.block;
  same : (k : ℕ) → k < l.index → block_bytes l.block l.bytes.items k ≡ dealt (block_bytes l.block l.a) (block_bytes l.block l.b) (block_bytes l.block l.c) (block_bytes l.block l.d) k;
}
