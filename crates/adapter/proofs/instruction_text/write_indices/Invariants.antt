-- the indices so far are written
use Rattle.std.proofs.Common.{◌≡◌, ◌++◌, take}
use Rattle.std.specs.Prelude.{string_bytes}
use Rattle.adapter.specs.InstructionText.{indices_text}
use Rattle.adapter.proofs.instruction_text.write_indices.Given as goal

abbrev pub invariant-loop-index : goal.invariant-loop-index
invariant-loop-index l = string_bytes l.text ≡ string_bytes l.initial.text ++ indices_text (take l.index-index l.indices)
