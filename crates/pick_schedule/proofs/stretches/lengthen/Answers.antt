use Rattle.std.proofs.Common.{rules, ◌≡◌, ◌-◌, length, get_or, arith}
use Rattle.event_core.specs.declared.pick.Input.TheVariants.{Go}
use Rattle.pick_schedule.specs.declared.stretches.Stretch.{Stretch}
use Rattle.pick_schedule.proofs.Lengths.{lengthened}
use Rattle.pick_schedule.proofs.stretches.lengthen.Goals as goal

pub returns : goal.returns
returns c =
    let xs = c.args.stretches.now in
    let nothing : Stretch = record { pick = record { thread = 0; input = Go }; times = 0 } in
    let some = c.if-count-eq0.false in
    let same : (get_or xs (length xs - 1) nothing).pick ≡ c.args.stretch.pick = search rules in
    lengthened xs nothing (length xs - 1) c.args.stretch.times c.args.stretch.pick (omega (arith, some)) same
