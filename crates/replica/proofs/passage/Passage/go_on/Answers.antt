use Rattle.replica.proofs.PassageLaws.{longer_self, longer_more, longer_row}
use Rattle.replica.proofs.passage.Passage.go_on.Goals as goal

pub loop-row-init : goal.loop-row-init
loop-row-init c = longer_self c.args.log.now c.args.self.now c.requires

pub loop-row-preserved : goal.loop-row-preserved
loop-row-preserved c =
    longer_more c.args.log.now c.args.self.now c.loop-row.self c.add.new.self c.loop-row.invariant
    (longer_row c.args.log.now c.loop-row.self c.add.new.self c.in-Some.row c.in-Some.ensures.some c.in_ok-add.ensures.rows c.in_ok-add.ensures.keeps)
