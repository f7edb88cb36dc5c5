use Rattle.std.proofs.Common.{sym, subst, OnOk}
use Rattle.wasm_types.specs.declared.instruction.Instr.TheVariants as instr
use Rattle.thread_words.specs.Thread.{Local}
use Rattle.thread_words.specs.Moves.{Opens}
use Rattle.thread_words.proofs.Here.{next_fits}
use Rattle.thread_words.proofs.blocks.block.Goals as goal

pub enter-requires-clause-fits : goal.enter-requires-clause-fits
enter-requires-clause-fits c = let k = c.requires in next_fits c.args.valid.now k.1.0 (instr.Block c.args.kind k.0) k.1.1.0 (Local k.1.1.1) c.args.m.now k.1.1.2

pub enter-requires-in-Loop-clause-fits : goal.enter-requires-in-Loop-clause-fits
enter-requires-in-Loop-clause-fits c = let k = c.requires in next_fits c.args.valid.now k.1.0 (instr.Block c.args.kind k.0) k.1.1.0 (Local k.1.1.1) c.args.m.now k.1.1.2

pub returns-in-If-clause-ok : goal.returns-in-If-clause-ok
returns-in-If-clause-ok c = subst (λ y. OnOk c.choose.result (Opens c.args.valid.now y c.args.m.now c.choose.new.m)) (sym c.in-If.is) c.choose.ensures.ok
