use Rattle.std.proofs.Common.{rules, ◌≡◌, ◌+◌, ◌++◌, string_bytes, subst, sym}
use Rattle.commands.specs.Least.{AreListed}
use Rattle.commands.specs.Hunts.{IsRunLine}
use Rattle.commands.proofs.Least.{listed_join}
use Rattle.commands.proofs.hunt_surveys.RunLinesSurvey.join.Goals as goal

pub returns : goal.returns
returns g c =
    let s = c.args.self.now in
    let both : string_bytes c.push_str.new.self ≡ string_bytes c.args.found.now ++ string_bytes c.args.behind = search rules in
    let is_line = IsRunLine s.runs.program.now.valid s.runs.program.now.plan s.runs.request.now in
    λ from count more x y. subst (AreListed is_line from (count + more)) (sym both) (listed_join is_line from count more (string_bytes c.args.found.now) (string_bytes c.args.behind) x y)
