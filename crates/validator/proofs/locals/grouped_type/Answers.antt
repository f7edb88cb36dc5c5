use Rattle.std.proofs.Common.{sym, subst, arith}
use Rattle.std.specs.List.Sorted.{IsNonDecreasing}
use Rattle.validator.proofs.EndLaws.{never_fall, none_there, some_there}
use Rattle.validator.proofs.locals.grouped_type.Goals as goal

pub ends_before-requires : goal.ends_before-requires
ends_before-requires c = subst IsNonDecreasing (sym c.requires.ends) (never_fall c.args.groups.now 0 (omega arith))

pub returns-in-None : goal.returns-in-None
returns-in-None c = none_there c.args.at c.args.groups.now c.args.ends.now c.ends_before.result c.requires.at c.requires.ends c.in-None.ensures.lookup.3 c.ends_before.ensures.before c.ends_before.ensures.behind

pub returns-in-Some : goal.returns-in-Some
returns-in-Some c = some_there c.args.at c.args.groups.now c.args.ends.now c.ends_before.result c.requires.at c.requires.ends c.in-Some.group.now c.in-Some.ensures.lookup.3.0 c.in-Some.ensures.lookup.1 c.ends_before.ensures.before c.ends_before.ensures.behind
