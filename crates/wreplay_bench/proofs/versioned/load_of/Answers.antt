-- No load has more than eight bytes.
use Rattle.std.proofs.Common.{arith}
use Rattle.block_objects.proofs.Meets.{load_small}
use Rattle.wreplay_bench.proofs.Counting.{few_within}
use Rattle.wreplay_bench.proofs.versioned.load_of.Goals as goal

pub returns-clause-within : goal.returns-clause-within
returns-clause-within c = few_within c.args.limits.now _ c.min-address.result 8 c.requires c.power-small.ensures.greatest (omega arith) c.extent_of.ensures (λ bytes h. omega (arith, h, load_small c.args.load))
