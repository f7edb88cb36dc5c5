use Rattle.wasm_types.specs.declared.instruction.Instr.TheVariants as instr
use Rattle.wasm_types.specs.declared.instruction.Plain.TheVariants.{Unreachable}
use Rattle.thread_words.proofs.Landings.{read_there}
use Rattle.thread_words.proofs.functions.instruction_in.Goals as goal

pub returns : goal.returns
returns c = λ i is at. read_there c.args.code.now c.args.place i is (instr.Plain Unreachable) at
