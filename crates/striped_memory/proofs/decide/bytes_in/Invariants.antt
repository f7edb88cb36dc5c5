use Rattle.std.proofs.Common.{◌≡◌, ℕ, ◌+◌, ◌<◌, ◌≤◌, drop, slice_index}
use Rattle.memory_parts.specs.SharedCut.{bytes_in}
use Rattle.striped_memory.proofs.decide.bytes_in.Given as goal

abbrev pub invariant-loop-one : goal.invariant-loop-one
invariant-loop-one l = record {
  few : l.count ≤ 8;
  before : (k : ℕ) → k < l.count → slice_index l.bytes k ≡ slice_index (bytes_in l.seen) k;
  left : (k : ℕ) → l.count + k < 8 → slice_index (bytes_in (drop l.one-index l.seen)) k ≡ slice_index (bytes_in l.seen) (l.count + k);
  zeros : (k : ℕ) → l.count ≤ k → slice_index l.bytes k ≡ 0;
}
