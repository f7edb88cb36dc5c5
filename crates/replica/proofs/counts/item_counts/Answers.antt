use Rattle.std.proofs.Common.{◌≡◌, rules, arith}
use Rattle.std.specs.Prelude.{nat_lt, nat_le}
use Rattle.replica.specs.Flats.{is_clash}
use Rattle.replica.proofs.Counting.{counted_none, counted_all, window, rises}
use Rattle.replica.proofs.counts.item_counts.Goals as goal

pub loop-place-init : goal.loop-place-init
loop-place-init c =
    let start : c.into_iter-place-iterator.result ≡ c.args.log.now.entries = search rules in
    rw start (record {
      below = counted_none (λ e. nat_lt e.0 c.args.end) c.args.log.now.entries c.packed-place-items.ensures.ordered;
      from = counted_none (λ e. nat_le c.args.end e.0) c.args.log.now.entries c.packed-place-items.ensures.ordered;
      clashes = counted_none (λ e. is_clash e.1) c.args.log.now.entries c.packed-place-items.ensures.ordered;
    })

pub returns-clause-rest : goal.returns-clause-rest
returns-clause-rest c =
    let entries = c.args.log.now.entries in
    let counted = counted_all (λ e. nat_lt e.0 c.args.end) entries c.loop-place.place-iterator c.loop-place.below c.in-None.ensures.steps.0 c.loop-place.invariant.below in
    let whole = window entries 0 c.args.end c.args.end (omega arith) (rises entries c.packed-place-items.ensures.ordered) in
    omega (arith, counted.0, whole)
