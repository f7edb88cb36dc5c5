use Rattle.std.proofs.Common.{◌≡◌, ℕ, List, ◌+◌, ◌≤◌, ◌<◌, ◌^◌, length, drop, ap, sym, ◌∙◌, arith}
use Rattle.rw_objects.specs.declared.count.Count.{Count}
use Rattle.rw_objects.specs.declared.touch.Found.{Found}
use Rattle.rw_objects.specs.declared.touch.Found.TheVariants.{Read}
use Rattle.replica.specs.Counted.{count_behind}
use Rattle.replica.specs.Kept.{counts_in}
use Rattle.replica.proofs.CountLaws.{few_below, behind_next}
use Rattle.replica.proofs.object_counts.ObjectCounts.add_entry.Goals as goal

-- any touch
any : Found
any = Read 0 0

pub add-requires : goal.add-requires
add-requires c =
    let same : length c.as_slice-found-items.result.now ≡ length c.args.entry.now.found = ap (λ (l : List Found). length l) c.as_slice-found-items.ensures.items in
    let few : length c.args.entry.now.found ≤ 3 = c.as_slice-found-items.ensures.few in
    let below : c.loop-found.found-index < length c.as_slice-found-items.result.now = c.loop-found-test.true in
    few_below c.loop-found.self (2 ^ 70 + c.loop-found.found-index) (2 ^ 80) (omega (arith, same, few, below)) (c.loop-found.invariant.few (2 ^ 70) c.requires)

pub loop-found-preserved : goal.loop-found-preserved
unfolding any
loop-found-preserved c =
    let xs = c.as_slice-found-items.result.now in
    let i = c.loop-found.found-index in
    record {
      counts = λ (o : ℕ). ap (λ (n : Count). count_behind o (drop (i + 1) xs) n) (c.in_ok-add.ensures.counts o) ∙ sym (behind_next xs i any c.loop-found-test.true o (counts_in c.loop-found.self o)) ∙ c.loop-found.invariant.counts o;
      few = λ n h. few_below c.add.new.self (n + i + 1) (n + (i + 1)) (omega arith) (c.in_ok-add.ensures.few (n + i) (c.loop-found.invariant.few n h));
    }

pub returns-clause-few : goal.returns-clause-few
returns-clause-few c n h =
    let same : length c.as_slice-found-items.result.now ≡ length c.args.entry.now.found = ap (λ (l : List Found). length l) c.as_slice-found-items.ensures.items in
    let few : length c.args.entry.now.found ≤ 3 = c.as_slice-found-items.ensures.few in
    let end : c.loop-found.found-index ≤ length c.as_slice-found-items.result.now = c.loop-found.auto.found-index-end in
    few_below c.loop-found.self (n + c.loop-found.found-index) (n + 3) (omega (arith, same, few, end)) (c.loop-found.invariant.few n h)
