use Rattle.std.proofs.Common.{◌≡◌, ◌∙◌, sym, subst, rules, length}
use Rattle.std.proofs.Math.Facts.{Fits-of_lt}
use Rattle.wasm_types.specs.declared.instruction.Instr.TheVariants as instr
use Rattle.wasm_types.specs.declared.instruction.Plain.TheVariants.{End}
use Rattle.thread_words.specs.Thread.{Local}
use Rattle.thread_words.specs.Words.{Stands}
use Rattle.thread_words.proofs.Here.{acts_here, next_fits}
use Rattle.thread_words.proofs.Apart.{end_closes}
use Rattle.thread_words.proofs.Opening.{ends_function}
use Rattle.thread_words.proofs.blocks.end.Goals as goal

pub leave-requires : goal.leave-requires
leave-requires c =
    let size : c.len.result ≡ length c.args.m.now.labels.items = search rules in
    let z : length c.args.m.now.labels.items ≡ c.args.m.now.here.labels = sym size ∙ c.if-len-m.true in
    let k = c.requires.1 in
    let a = acts_here c.args.valid.now c.requires.0 (instr.Plain End) k.0 (Local k.1) c.args.m.now k.2 in
    (k.0, k.2.function, (ends_function c.args.valid.now c.requires.0 (instr.Plain End) k.0 k.1 c.args.m.now a.next _ k.2 a.acts a.moves z).0)

pub overflow_add-place : goal.overflow_add-place
overflow_add-place c = let k = c.requires.1 in Fits-of_lt (next_fits c.args.valid.now c.requires.0 (instr.Plain End) k.0 (Local k.1) c.args.m.now k.2)

pub returns-then-len-m-clause-steps : goal.returns-then-len-m-clause-steps
returns-then-len-m-clause-steps c = λ instance s after k.
    let size : c.len.result ≡ length c.args.m.now.labels.items = search rules in
    let z : length c.args.m.now.labels.items ≡ c.args.m.now.here.labels = sym size ∙ c.if-len-m.true in
    let a = acts_here c.args.valid.now instance (instr.Plain End) s (Local after) c.args.m.now k in
    let p = ends_function c.args.valid.now instance (instr.Plain End) s after c.args.m.now a.next _ k a.acts a.moves z in
    subst (λ x. Stands x c.leave.new.m) p.1 (c.leave.ensures s k.function p.0)

pub returns-clause-steps : goal.returns-clause-steps
returns-clause-steps c = λ instance s after k.
    let size : c.len.result ≡ length c.args.m.now.labels.items = search rules in
    end_closes c.args.valid.now instance s after c.args.m.now c.close.new.m k (λ z. c.if-len-m.false (size ∙ z)) c.close.ensures
