use Rattle.std.proofs.Common.{rules, tests}
use Rattle.std.proofs.lemmas.Iterator.{YieldsList-from_slice}
use Rattle.std.proofs.lemmas.Iterator.Search.{any_from_yields_List}
use Rattle.replica.specs.Versions.{is_read}
use Rattle.replica.proofs.touch.has_read.Goals as goal

pub returns : goal.returns
returns c = any_from_yields_List is_read _ _ _ c.any.ensures.ran (YieldsList-from_slice c.args.touches.now cc) (λ x b q k. search (rules, tests))
