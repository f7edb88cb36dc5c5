use Rattle.std.proofs.Common.{arith}
use Rattle.recorder.proofs.Words.{powers}
use Rattle.recorder.proofs.draws.Draws.accesses.Goals as goal

pub below-requires : goal.below-requires
below-requires c = let k = powers c.args.self.now.exponent c.args.self.now.small in let is = c.pow-most.ensures in omega (arith, k.0, is)
