use Rattle.std.proofs.Common.{rules, ◌≡◌, ◌++◌}
use Rattle.commands.specs.Views.{place_break, step_break}
use Rattle.commands.proofs.Viewed.{with_write}
use Rattle.commands.proofs.view_command.breaks_of.Goals.{in-Some, in_default, in-Some-step, in_default-step}
use Rattle.commands.proofs.view_command.breaks_of.Goals as goal

pub returns-in-Some-write : goal.returns-in-Some-write
returns-in-Some-write c =
    let place : c.match-request.breaks.items ≡ place_break c.args.request.now.place = elim c.match-request.branch [ in-Some w ↦ search rules | in_default w ↦ search rules ] in
    let step : c.match-request-2.breaks.items ≡ place_break c.args.request.now.place ++ step_break c.args.request.now.step = elim c.match-request-2.branch [ in-Some-step w ↦ search rules | in_default-step w ↦ search rules ] in
    with_write c.args.request.now c.args.block c.in-Some-write.write c.write_break.result _ _ c.in-Some-write.is c.write_break.ensures step c.push-in-Some-write.ensures.items
