use Rattle.std.proofs.Common.{Some, sym, ap, ◌∙◌}
use Rattle.std.specs.Prelude.{option_map, reverse}
use Rattle.thread_words.specs.Words.{words_of}
use Rattle.integer_machine.proofs.values.operands_at.Goals as goal

pub read_operands-requires : goal.read_operands-requires
read_operands-requires c = let k = c.in-Some.ensures.some c.args.valid.now c.requires in (k.0, k.2)

pub returns-in-Some : goal.returns-in-Some
returns-in-Some c = let k = c.in-Some.ensures.some c.args.valid.now c.requires in ap Some (c.read_operands.ensures k.0 k.2) ∙ sym (ap (option_map (λ h. reverse (words_of h.activation.stack))) k.1)
