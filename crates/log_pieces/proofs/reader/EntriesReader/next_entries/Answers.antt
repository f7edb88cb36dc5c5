use Rattle.std.proofs.Common.{drop, ap, ◌∙◌}
use Rattle.log_pieces.proofs.Packing.{left_behind}
use Rattle.log_pieces.proofs.reader.EntriesReader.next_entries.Goals as goal

pub invariant_of-self : goal.invariant_of-self
invariant_of-self c = (left_behind c.self.inside.left c.args.most c.min-count.result c.self.inside.bytes.now c.in_ok-entries.behind.now c.self.invariant c.min-count.ensures c.in_ok-entries.ensures.behind).packed

pub returns-clause-left : goal.returns-clause-left
returns-clause-left c =
    (left_behind c.self.inside.left c.args.most c.min-count.result c.self.inside.bytes.now c.in_ok-entries.behind.now c.self.invariant c.min-count.ensures c.in_ok-entries.ensures.behind).read
    ∙ ap (drop c.args.most) c.self.view_is
