use Rattle.std.proofs.Common.{◌≡◌, true, List, take}
use Rattle.validator.specs.Table.{all_take, seq}
use Rattle.validator.specs.Walk.{Frame, labels_of}
use Rattle.validator.specs.Standing.{Stand}
use Rattle.validator.proofs.labels.other_label.Given as goal

-- the labels as far as the loop has come take what is named
abbrev pub invariant-loop-label : goal.invariant-loop-label
invariant-loop-label l = (fs : List Frame) → Stand fs l.stacks → all_take (labels_of fs) (seq l.takes) (take l.label-index l.labels) ≡ true
