-- The values so far are given.
use Rattle.std.proofs.Common.{◌≡◌, ◌++◌, take}
use Rattle.thread_words.specs.Words.{words_of, AreInRange}
use Rattle.integer_machine.proofs.opening.push_values.Given as goal

abbrev pub invariant-loop-value : goal.invariant-loop-value
invariant-loop-value l = record {
  words : l.words.items ≡ l.initial.words.items ++ words_of (take l.value-index l.values);
  range : AreInRange (take l.value-index l.values);
}
