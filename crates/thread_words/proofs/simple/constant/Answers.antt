use Rattle.wasm_types.specs.declared.instruction.Instr.TheVariants.{Const}
use Rattle.thread_words.specs.Thread.{Local}
use Rattle.thread_words.proofs.Here.{next_fits}
use Rattle.thread_words.proofs.simple.constant.Goals as goal

pub push-requires : goal.push-requires
push-requires c = let k = c.requires in next_fits k.0 k.1 (Const c.args.value) k.2.0 (Local k.2.1) c.args.m.now k.2.2
