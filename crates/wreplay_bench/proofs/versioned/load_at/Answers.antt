use Rattle.wreplay_bench.proofs.Counting.{few_within}
use Rattle.wreplay_bench.proofs.versioned.load_at.Goals as goal

pub returns-clause-within : goal.returns-clause-within
returns-clause-within c = few_within c.args.limits.now _ c.address_of-address.result 4 c.requires c.power-small.ensures.greatest c.address_of-address.ensures c.extent_of.ensures (λ bytes h. h)
