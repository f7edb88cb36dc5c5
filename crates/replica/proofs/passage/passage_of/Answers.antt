use Rattle.std.proofs.Common.{List, [], sym, subst}
use Rattle.replica.specs.declared.passage.EntryRow.{EntryRow}
use Rattle.replica.specs.Passage.{IsPassage}
use Rattle.replica.proofs.PassageLaws.{passage_append}
use Rattle.replica.proofs.passage.passage_of.Goals as goal

pub loop-passage-preserved : goal.loop-passage-preserved
loop-passage-preserved c =
    let log = c.args.log.now in
    let longer = c.in_ok-go_round.ensures.longer in
    record {
      passes = subst (λ (l : List EntryRow). IsPassage log [] l) (sym longer.parts) (passage_append log [] c.loop-passage.passage.rows.items longer.more c.loop-passage.invariant.passes longer.passes);
      keeps = longer.keeps;
    }
