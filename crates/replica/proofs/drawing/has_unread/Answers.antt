use Rattle.std.proofs.Common.{rules, tests}
use Rattle.std.proofs.lemmas.Iterator.{YieldsList-from_slice}
use Rattle.std.proofs.lemmas.Iterator.Search.{any_from_yields_List}
use Rattle.replica.specs.declared.versions_met.Mark.{Mark}
use Rattle.replica.proofs.drawing.has_unread.Goals as goal

pub returns : goal.returns
returns c = any_from_yields_List (λ (m : Mark). m.is_unread) _ _ _ c.any.ensures.ran (YieldsList-from_slice c.args.marks.now cc) (λ x b q k. search (rules, tests))
