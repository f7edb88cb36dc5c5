-- The ranges so far, and those of the texts that are left.
use Rattle.std.proofs.Common.{◌≡◌, map, drop}
use Rattle.command_words.specs.Asked.{ranges_of}
use Rattle.command_words.proofs.Digits.{behind}
use Rattle.command_words.proofs.wanted.ranges_in.Given as goal

abbrev pub invariant-loop-text : goal.invariant-loop-text
invariant-loop-text l = behind (map (λ r. (r.from, r.len)) l.ranges.items) (ranges_of (map (λ t. t.now) (drop l.text-index l.texts))) ≡ ranges_of (map (λ t. t.now) l.texts)
