use Rattle.std.proofs.Common.{◌≡◌, ◌+◌, ◌*◌, ◌/◌, ◌^◌, ◌<◌, ◌≤◌, ◌++◌, ℕ, List, length, take, drop, subst, sym, ap, ◌∙◌, arith}
use Rattle.block_objects.specs.declared.limits.MemoryLimits.{MemoryLimits}
use Rattle.block_objects.specs.Objects.{block_bytes}
use Rattle.striped_memory.specs.Quarters.{quarter_of}
use Rattle.striped_memory.proofs.Deals.{quarters, more_length, more_blocks, block_len, all_blocks}
use Rattle.striped_memory.proofs.split.deal_blocks.Goals as goal

pub loop-j-preserved : goal.loop-j-preserved
loop-j-preserved c =
    let L = c.limits-limits.result in
    let p = L.block in
    let all = c.bytes-all.result.now in
    let q = quarter_of L.block L.capacity in
    let f = quarters L c.args.blocks.now c.count-count.result all c.limits-limits.ensures.limits c.limits-limits.ensures.sound c.count-count.ensures.count c.bytes-all.ensures.bytes in
    let k = 4 * c.loop-j.j + c.args.row in
    let low : k < 4 * q = omega (arith, f.0, c.loop-j-test.true, c.requires) in
    let b = c.window.result.now in
    let is : b ≡ block_bytes p all k = c.window.ensures ∙ ap (λ s. take s (drop c.place_of-in-loop-j.result all)) c.size-size.ensures.size ∙ ap (λ a. take (2 ^ p) (drop a all)) c.place_of-in-loop-j.ensures.place in
    let size : length b ≡ 2 ^ p = ap length is ∙ block_len p (4 * q) k all f.1 low in
    let xs = c.loop-j.bytes.items in
    let more : c.extend_from_slice.new.self.items ≡ xs ++ b = c.in_ok-extend_from_slice.ensures.items in
    let from : ℕ → List ℕ = λ i. block_bytes p all (4 * i + c.args.row) in
    record {
      long = ap length more ∙ more_length p c.loop-j.j xs b from c.loop-j.invariant.long size is c.loop-j.invariant.dealt;
      dealt = λ i less. ap (λ (l : List ℕ). block_bytes p l i) more ∙ more_blocks p c.loop-j.j xs b from c.loop-j.invariant.long size is c.loop-j.invariant.dealt i less;
    }

pub returns-clause-blocks : goal.returns-clause-blocks
returns-clause-blocks c =
    let L = c.limits-limits.result in
    let all = c.bytes-all.result.now in
    let q = quarter_of L.block L.capacity in
    let f = quarters L c.args.blocks.now c.count-count.result all c.limits-limits.ensures.limits c.limits-limits.ensures.sound c.count-count.ensures.count c.bytes-all.ensures.bytes in
    let enough : q ≤ c.loop-j.j = omega (arith, f.0, c.loop-j-test.false) in
    let xs = c.loop-j.bytes.items in
    subst (λ (l : MemoryLimits). (j : ℕ) → block_bytes l.block xs j ≡ block_bytes l.block c.args.blocks.now.bytes (4 * j + c.args.row)) c.limits-limits.ensures.limits
    (λ j. all_blocks L.block q c.loop-j.j c.args.row xs all c.loop-j.invariant.long f.1 enough c.loop-j.invariant.dealt j ∙ ap (λ (l : List ℕ). block_bytes L.block l (4 * j + c.args.row)) c.bytes-all.ensures.bytes)
