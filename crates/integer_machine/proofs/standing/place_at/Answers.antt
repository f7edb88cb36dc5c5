use Rattle.std.proofs.Common.{Some, None, ap, ◌∙◌}
use Rattle.integer_machine.proofs.Levels.{place_going}
use Rattle.integer_machine.proofs.standing.place_at.Goals as goal

pub returns-in-Some : goal.returns-in-Some
returns-in-Some c within = ap Some c.place_of_level.ensures ∙ place_going within c.args.m.now c.args.depth (Some c.in-Some.level.now) c.in_default.not-Ended c.in-Some.ensures

pub returns-in-None : goal.returns-in-None
returns-in-None c within = place_going within c.args.m.now c.args.depth None c.in_default.not-Ended c.in-None.ensures
