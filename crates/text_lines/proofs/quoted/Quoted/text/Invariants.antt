-- The bytes so far are in the text.
use Rattle.std.proofs.Common.{◌≡◌, take}
use Rattle.std.specs.List.{flat_map}
use Rattle.text_lines.proofs.Lengths.{as_shown}
use Rattle.text_lines.proofs.quoted.Quoted.text.Given as goal

abbrev pub invariant-loop-byte : goal.invariant-loop-byte
invariant-loop-byte l = l.text.bytes ≡ flat_map as_shown (take l.byte-index l.byte-items)
