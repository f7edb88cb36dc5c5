use Rattle.std.proofs.Common.{rules, tests, not}
use Rattle.std.specs.Prelude.{◌==◌}
use Rattle.std.proofs.lemmas.Iterator.{YieldsList-from_slice}
use Rattle.std.proofs.lemmas.Iterator.Search.{any_from_yields_List}
use Rattle.replica.specs.declared.touch.ObjectTouch.{ObjectTouch}
use Rattle.replica.proofs.touch.has_other.Goals as goal

pub returns : goal.returns
returns c = any_from_yields_List (λ (t : ObjectTouch). not (t.thread == c.args.thread)) _ _ _ c.any.ensures.ran (YieldsList-from_slice c.args.touches.now cc) (λ x b q k. search (rules, tests))
