use Rattle.std.proofs.Common.{subst}
use Rattle.wasm_types.specs.declared.instruction.Instr.TheVariants.{Plain}
use Rattle.wasm_types.specs.declared.instruction.Plain.TheVariants.{Return}
use Rattle.thread_words.specs.Thread.{Local}
use Rattle.thread_words.specs.Words.{Stands}
use Rattle.thread_words.proofs.Here.{acts_here, few_results}
use Rattle.thread_words.proofs.Returns.{leaving}
use Rattle.thread_words.proofs.leaving.return_now.Goals as goal

pub leave-requires : goal.leave-requires
leave-requires c =
    let k = c.requires.1 in
    let a = acts_here c.args.valid.now c.requires.0 (Plain Return) k.0 (Local k.1) c.args.m.now k.2 in
    let p = leaving c.args.valid.now k.0 k.2.function c.args.m.now a.next k.1 k.2.running k.2.lies k.2.found (few_results c.args.valid.now c.requires.0 (Plain Return) k.0 (Local k.1) c.args.m.now k.2) a.acts a.moves k.2.ends in
    (k.0, k.2.function, p.0)

pub returns : goal.returns
returns c = λ instance s after k.
    let a = acts_here c.args.valid.now instance (Plain Return) s (Local after) c.args.m.now k in
    let p = leaving c.args.valid.now s k.function c.args.m.now a.next after k.running k.lies k.found (few_results c.args.valid.now instance (Plain Return) s (Local after) c.args.m.now k) a.acts a.moves k.ends in
    subst (λ x. Stands x c.leave.new.m) p.1 (c.leave.ensures s k.function p.0)
