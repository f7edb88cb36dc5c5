-- The words so far gave values.
use Rattle.std.proofs.Common.{◌≡◌, ◌++◌, map, take}
use Rattle.wasm_types.specs.Values.{value_of}
use Rattle.integer_machine.proofs.values.push_values.Given as goal

abbrev pub invariant-loop-word : goal.invariant-loop-word
invariant-loop-word l = l.values.items ≡ l.initial.values.items ++ map (value_of l.t) (take l.word-index l.words)
