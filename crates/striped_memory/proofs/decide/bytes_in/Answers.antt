use Rattle.std.proofs.Common.{◌≡◌, ◌≤◌, ◌<◌, ◌+◌, ◌++◌, ℕ, drop, slice_index, sym, ap, ◌∙◌, arith}
use Rattle.std.proofs.Math.ListN.{drop_of_length-le}
use Rattle.memory_parts.specs.SharedCut.{bytes_in}
use Rattle.striped_memory.proofs.Looks.{bytes_from, filled_before, filled_left, filled}
use Rattle.striped_memory.proofs.decide.bytes_in.Goals as goal

pub loop-one-preserved : goal.loop-one-preserved
loop-one-preserved c =
    let inv = c.loop-one.invariant in
    let put = c.append-count.ensures in
    let all = bytes_in c.args.seen.now in
    let part = c.part_of.result.now in
    let rest = bytes_in (drop (c.loop-one.one-index + 1) c.args.seen.now) in
    let from : bytes_in (drop c.loop-one.one-index c.args.seen.now) ≡ part ++ rest = bytes_from c.args.seen.now c.loop-one.one-index _ part c.loop-one-test.true c.part_of.ensures.bytes in
    let left : (k : ℕ) → c.loop-one.count + k < 8 → slice_index (part ++ rest) k ≡ slice_index all (c.loop-one.count + k) = λ k low. ap (λ l. slice_index l k) (sym from) ∙ inv.left k low in
    record {
      few = omega (arith, put.count);
      before = filled_before all part rest c.loop-one.bytes c.append-count.new.bytes c.loop-one.count c.append-count.result put.count left inv.before put.before put.part;
      left = filled_left all part rest c.loop-one.bytes c.append-count.new.bytes c.loop-one.count c.append-count.result put.count left;
      zeros = λ k high. put.behind k high ∙ inv.zeros k (omega (arith, put.count, high, inv.few));
    }

pub returns : goal.returns
returns c =
    let inv = c.loop-one.invariant in
    let none = drop_of_length-le c.args.seen.now c.loop-one-test.false in
    filled (bytes_in c.args.seen.now) c.loop-one.bytes c.loop-one.count inv.before inv.zeros
    (λ k low. ap (λ l. slice_index (bytes_in l) k) (sym none) ∙ inv.left k low)
