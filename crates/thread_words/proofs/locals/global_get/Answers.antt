use Rattle.std.proofs.lemmas.Result.{on_ok_weaker}
use Rattle.std.proofs.Common.{arith}
use Rattle.wasm_types.specs.declared.instruction.Instr.TheVariants.{Index}
use Rattle.wasm_types.specs.declared.instruction.IndexOp.TheVariants.{GlobalGet}
use Rattle.thread_words.specs.Thread.{Local}
use Rattle.thread_words.proofs.Here.{next_fits}
use Rattle.thread_words.proofs.Variables.{can_get_global, gets_global}
use Rattle.thread_words.proofs.locals.global_get.Goals as goal

pub push-requires : goal.push-requires
push-requires c = let k = c.requires in next_fits k.0 k.1 (Index GlobalGet c.args.global) k.2.0 (Local k.2.1) c.args.m.now k.2.2

pub returns-clause-ok : goal.returns-clause-ok
returns-clause-ok c = on_ok_weaker c.push.result (λ p m instance s after k. gets_global m instance s after c.args.m.now c.push.new.m c.args.global c.index-word.result.now k c.index-word.ensures p) c.push.ensures.ok

pub index-word-requires : goal.index-word-requires
index-word-requires c = let k = c.requires in let b = can_get_global k.0 k.1 k.2.0 (Local k.2.1) c.args.m.now c.args.global k.2.2 in omega (arith, b)
