use Rattle.std.proofs.Common.{rules}
use Rattle.replica.proofs.LineLemmas.{first_line}
use Rattle.replica.proofs.lines.Chunk.take_line.Goals as goal

pub returns-in_ok-extend_from_slice-in-Some-clause-whole : goal.returns-in_ok-extend_from_slice-in-Some-clause-whole
returns-in_ok-extend_from_slice-in-Some-clause-whole c _ =
    first_line c.self.inside.bytes.items c.self.inside.start c.self.inside.end c.in-Some.at _ _ _ c.split_at.result.0.now c.self.view_is (rw c.deref.ensures.value at c.in-Some.ensures) (rw c.deref.ensures.value at c.split_at.ensures.front) (search (rules, c.in_ok-extend_from_slice-in-Some.ensures.items))
