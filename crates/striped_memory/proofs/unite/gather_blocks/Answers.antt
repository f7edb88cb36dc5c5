use Rattle.std.proofs.Common.{◌≡◌, ◌*◌, ◌/◌, ◌^◌, ◌<◌, ◌≤◌, ◌++◌, ℕ, List, length, ap, sym, ◌∙◌, arith}
use Rattle.block_objects.specs.Objects.{block_bytes}
use Rattle.striped_memory.specs.Quarters.{quarter_of, dealt}
use Rattle.striped_memory.proofs.Ranges.{quarters_fill}
use Rattle.striped_memory.proofs.Deals.{more_length, more_blocks, block_len, dealt_any, gathered_blocks}
use Rattle.striped_memory.proofs.unite.gather_blocks.Goals as goal

pub loop-index-preserved : goal.loop-index-preserved
loop-index-preserved c =
    let p = c.args.limits.now.block in
    let n = quarter_of p c.args.limits.now.capacity in
    let i = c.loop-index.index in
    let low : i / 4 < n = omega (arith, c.quarter-count.ensures.quarter, c.loop-index-test.true) in
    let from : ℕ → List ℕ = dealt (block_bytes p c.args.a.now) (block_bytes p c.args.b.now) (block_bytes p c.args.c.now) (block_bytes p c.args.d.now) in
    let b = c.dealt_block.result.now in
    let is : b ≡ from i = c.dealt_block.ensures in
    let whole : (l : List ℕ) → length l ≡ n * 2 ^ p → length (block_bytes p l (i / 4)) ≡ 2 ^ p = λ l len. block_len p n (i / 4) l len low in
    let size : length b ≡ 2 ^ p = ap length is ∙ dealt_any (λ v. length v ≡ 2 ^ p) (block_bytes p c.args.a.now) (block_bytes p c.args.b.now) (block_bytes p c.args.c.now) (block_bytes p c.args.d.now) i (whole _ c.requires.one) (whole _ c.requires.two) (whole _ c.requires.three) (whole _ c.requires.four) in
    let xs = c.loop-index.bytes.items in
    let more : c.extend_from_slice.new.self.items ≡ xs ++ b = c.in_ok-extend_from_slice.ensures.items in
    record {
      long = ap length more ∙ more_length p i xs b from c.loop-index.invariant.long size is c.loop-index.invariant.same;
      same = λ k less. ap (λ (l : List ℕ). block_bytes p l k) more ∙ more_blocks p i xs b from c.loop-index.invariant.long size is c.loop-index.invariant.same k less;
    }

pub returns-clause-len : goal.returns-clause-len
returns-clause-len c =
    let p = c.args.limits.now.block in
    let n = quarter_of p c.args.limits.now.capacity in
    let all : c.loop-index.index ≡ 4 * n = omega (arith, c.quarter-count.ensures.quarter, c.loop-index-test.false, c.loop-index.auto.index-end) in
    c.loop-index.invariant.long ∙ ap (λ k. k * 2 ^ p) all ∙ quarters_fill p c.args.limits.now.capacity c.power-from_6_to_12.ensures.greatest

pub returns-clause-blocks : goal.returns-clause-blocks
returns-clause-blocks c =
    let p = c.args.limits.now.block in
    let n = quarter_of p c.args.limits.now.capacity in
    let enough : 4 * n ≤ c.loop-index.index = omega (arith, c.quarter-count.ensures.quarter, c.loop-index-test.false) in
    gathered_blocks p n c.loop-index.index c.loop-index.bytes.items c.args.a.now c.args.b.now c.args.c.now c.args.d.now c.loop-index.invariant.long enough c.requires.one c.requires.two c.requires.three c.requires.four c.loop-index.invariant.same
