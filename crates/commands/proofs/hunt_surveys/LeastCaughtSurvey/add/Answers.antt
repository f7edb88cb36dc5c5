use Rattle.std.proofs.Common.{◌≡◌, ◌+◌, true, false, subst, sym, rules}
use Rattle.std.specs.Prelude.{None}
use Rattle.commands.specs.Least.{IsLeastCaught}
use Rattle.commands.specs.Hunts.{Comes}
use Rattle.commands.proofs.Least.{least_add, stays_or_adds}
use Rattle.commands.proofs.hunt_surveys.LeastCaughtSurvey.add.Goals.{else-is_none-via-then-is_none+in_ok-comes+else-branch, else-is_none-via-else-is_none}
use Rattle.commands.proofs.hunt_surveys.LeastCaughtSurvey.add.Goals as goal

pub returns-then-branch : goal.returns-then-branch
returns-then-branch g c =
    let s = c.args.self.now in
    let comes = Comes s.runs.program.now.valid s.runs.program.now.plan s.runs.request.now in
    let none : c.args.found.now ≡ None = search rules in
    let caught : c.in_ok-comes.field-0 ≡ true = search rules in
    λ from count is x. least_add comes from count c.args.number true is (subst (IsLeastCaught comes from count) none x) (subst (comes c.args.number) caught c.in_ok-comes.ensures)

pub returns-else-is_none : goal.returns-else-is_none
returns-else-is_none g c =
    let s = c.args.self.now in
    let comes = Comes s.runs.program.now.valid s.runs.program.now.plan s.runs.request.now in
    elim c.else-is_none.branch [
      | else-is_none-via-then-is_none+in_ok-comes+else-branch w ↦
          let none : c.args.found.now ≡ None = search rules in
          let uncaught : w.in_ok-comes.field-0 ≡ false = search rules in
          λ from count is x.
          subst (IsLeastCaught comes from (count + 1)) (sym none)
          (least_add comes from count c.args.number false is (subst (IsLeastCaught comes from count) none x) (subst (comes c.args.number) uncaught w.in_ok-comes.ensures))
      | else-is_none-via-else-is_none w ↦ λ from count is x. stays_or_adds comes from count 1 c.args.found.now (search rules) x
    ]
