use Rattle.std.proofs.Common.{rules, ◌≡◌, subst}
use Rattle.std.specs.Prelude.{None}
use Rattle.commands.specs.Least.{IsLeastCaught}
use Rattle.commands.specs.Hunts.{Comes}
use Rattle.commands.proofs.Least.{least_behind}
use Rattle.commands.proofs.hunt_surveys.LeastCaughtSurvey.join.Goals as goal

pub returns-then-is_none : goal.returns-then-is_none
returns-then-is_none g c =
    let s = c.args.self.now in
    let comes = Comes s.runs.program.now.valid s.runs.program.now.plan s.runs.request.now in
    let none : c.args.found.now ≡ None = search rules in
    λ from count more x y. least_behind comes from count more c.args.behind (subst (IsLeastCaught comes from count) none x) y
