use Rattle.std.proofs.Common.{rules, ◌≡◌, ◌+◌, length, ap, ◌∙◌}
use Rattle.integer_machine.proofs.Levels.{depth_going}
use Rattle.integer_machine.proofs.standing.depth_of.Goals as goal

pub returns : goal.returns
returns c within =
    let callers : c.len.result ≡ length c.args.m.now.callers.items = search rules in
    ap (λ n. n + 1) callers ∙ depth_going within c.args.m.now c.in_default.not-Ended
