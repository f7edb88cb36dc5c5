-- those so far are kept
use Rattle.std.proofs.Common.{◌≡◌, take}
use Rattle.adapter.specs.Breakpoints.{those}
use Rattle.adapter.proofs.breakpoints.those.Given as goal

abbrev pub invariant-loop-one : goal.invariant-loop-one
invariant-loop-one g l = l.items.items ≡ those (take l.one-index l.found)
