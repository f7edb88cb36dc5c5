-- A line that has more bytes than the longest command is none.
use Rattle.std.proofs.Common.{◌≡◌, ℕ, ◌<◌, List, [], ◌∷◌, length, arith}
use Rattle.std.proofs.lemmas.Bool.Decides.{nat_tests}
use Rattle.debugger.specs.Lines.{line_of}
use Rattle.debugger.specs.declared.command.Line.TheVariants as line

pub long_line : (bytes : List ℕ) → 1024 < length bytes → line.Unknown ≡ line_of bytes
long_line [] long = absurd (omega arith)
long_line (b ∷ bs) long = grind (arith, nat_tests)
