use Rattle.wasm_types.specs.declared.instruction.Instr.TheVariants.{Plain}
use Rattle.wasm_types.specs.declared.instruction.Plain.TheVariants.{Discard}
use Rattle.thread_words.specs.Thread.{Local}
use Rattle.thread_words.proofs.Here.{next_fits}
use Rattle.thread_words.proofs.Straight.{discards}
use Rattle.thread_words.proofs.simple.discard.Goals as goal

pub drop_top-requires-clause-place : goal.drop_top-requires-clause-place
drop_top-requires-clause-place c = let k = c.requires in next_fits k.0 k.1 (Plain Discard) k.2.0 (Local k.2.1) c.args.m.now k.2.2

pub returns-clause-steps : goal.returns-clause-steps
returns-clause-steps c = λ m instance s after k. discards m instance s after c.args.m.now c.drop_top.new.m k c.drop_top.ensures
