use Rattle.wasm_types.specs.declared.instruction.Instr.TheVariants.{Plain}
use Rattle.wasm_types.specs.declared.instruction.Plain.TheVariants.{Nop}
use Rattle.thread_words.specs.Thread.{Local}
use Rattle.thread_words.proofs.Here.{next_fits}
use Rattle.thread_words.proofs.simple.nop.Goals as goal

pub advance-requires : goal.advance-requires
advance-requires c = let k = c.requires in next_fits k.0 k.1 (Plain Nop) k.2.0 (Local k.2.1) c.args.m.now k.2.2
