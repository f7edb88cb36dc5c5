-- the locals so far are told
use Rattle.std.proofs.Common.{◌≡◌, take}
use Rattle.adapter.specs.Numbered.{numbered}
use Rattle.adapter.specs.Variables.{local_item}
use Rattle.adapter.proofs.variables.locals_of.Given as goal

abbrev pub invariant-loop-number : goal.invariant-loop-number
invariant-loop-number l = l.items ≡ numbered local_item 0 (take l.number l.values)
