-- The arrows so far and those that are left are all.
use Rattle.std.proofs.Common.{◌≡◌, ◌++◌, drop}
use Rattle.std.specs.List.{flat_map}
use Rattle.std.specs.String.{string_bytes}
use Rattle.replica.specs.Drawing.{arrow_to}
use Rattle.replica.proofs.drawing.put_arrows_to.Given as goal

abbrev pub invariant-loop-mark : goal.invariant-loop-mark
invariant-loop-mark l = string_bytes l.text ++ flat_map (λ m. arrow_to l.to m.from) (drop l.mark-index l.marks) ≡ string_bytes l.initial.text ++ flat_map (λ m. arrow_to l.to m.from) l.marks
