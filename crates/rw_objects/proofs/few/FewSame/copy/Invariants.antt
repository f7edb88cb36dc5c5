use Rattle.std.proofs.Common.{◌≡◌, take}
use Rattle.rw_objects.proofs.few.FewSame.copy.Given as goal

abbrev pub invariant-loop-item : goal.invariant-loop-item
invariant-loop-item g l = l.items ≡ take l.item-index l.item-items
