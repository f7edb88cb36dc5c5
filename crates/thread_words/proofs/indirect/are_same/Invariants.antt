use Rattle.std.proofs.Common.{◌≡◌, drop}
use Rattle.validator.specs.Table.{same_types}
use Rattle.thread_words.proofs.indirect.are_same.Given as goal

abbrev pub invariant-loop-i : goal.invariant-loop-i
invariant-loop-i l = same_types l.first l.second ≡ same_types (drop l.i l.first) (drop l.i l.second)
