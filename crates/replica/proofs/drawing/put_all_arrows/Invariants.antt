-- The texts so far and those of the lines that are left are all.
use Rattle.std.proofs.Common.{◌≡◌, ◌++◌, drop}
use Rattle.std.specs.String.{string_bytes}
use Rattle.replica.specs.Drawing.{numbered, arrows_text}
use Rattle.replica.proofs.drawing.put_all_arrows.Given as goal

abbrev pub invariant-loop-line : goal.invariant-loop-line
invariant-loop-line l = record {
  text : string_bytes l.text ++ numbered arrows_text l.line-index (drop l.line-index l.lines) ≡ string_bytes l.initial.text ++ numbered arrows_text 0 l.lines;
  number : l.number ≡ l.line-index;
}
