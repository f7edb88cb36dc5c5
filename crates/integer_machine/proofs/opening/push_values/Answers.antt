use Rattle.wasm_types.specs.Values.{bits_of}
use Rattle.std.proofs.Common.{◌≡◌, ◌++◌, ◌∷◌, [], rules}
use Rattle.integer_machine.proofs.Beginning.{more_words, more_range}
use Rattle.integer_machine.proofs.opening.push_values.Goals as goal

pub loop-value-preserved : goal.loop-value-preserved
loop-value-preserved c = let n : c.push.new.self.items ≡ c.loop-value.words.items ++ c.word.result ∷ [] = search rules in record {
  words = more_words bits_of c.args.values.now c.loop-value.value-index _ c.args.words.now.items _ _ _ c.loop-value-test.true c.word.ensures.bits c.loop-value.invariant.words n;
  range = more_range c.args.values.now c.loop-value.value-index _ c.loop-value-test.true c.word.ensures.range c.loop-value.invariant.range;
}
