use Rattle.std.proofs.Common.{◌≡◌, ℕ, ◌+◌, ◌*◌, ◌^◌, ◌<◌, length}
use Rattle.block_objects.specs.Objects.{block_bytes}
use Rattle.striped_memory.proofs.split.deal_blocks.Given as goal

abbrev pub invariant-loop-j : goal.invariant-loop-j
invariant-loop-j l = record {
  long : length l.bytes.items ≡ l.j * 2 ^ l.block;
  dealt : (k : ℕ) → k < l.j → block_bytes l.block l.bytes.items k ≡ block_bytes l.block l.all (4 * k + l.row);
}
