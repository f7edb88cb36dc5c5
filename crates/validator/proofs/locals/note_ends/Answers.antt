use Rattle.validator.specs.Ends.{ends_from}
use Rattle.validator.proofs.EndLaws.{ends_go_on, ends_done}
use Rattle.validator.proofs.locals.note_ends.Goals as goal

pub loop-group-preserved : goal.loop-group-preserved
loop-group-preserved c =
    rw c.in_ok-push.ensures.items (ends_go_on c.args.groups.now c.loop-group.ends.items (ends_from 0 c.args.groups.now) c.loop-group.end c.loop-group.group-index _ c.from.result c.saturating_add-end.result c.loop-group-test.true c.from.ensures c.saturating_add-end.ensures c.loop-group.invariant)

pub returns : goal.returns
returns c = ends_done c.args.groups.now c.loop-group.ends.items (ends_from 0 c.args.groups.now) c.loop-group.end c.loop-group.group-index c.loop-group-test.false c.loop-group.invariant
