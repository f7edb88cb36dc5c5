use Rattle.std.proofs.Common.{refl, ◌∙◌, ap, sym, ◌<◌, subst, length, slice_set}
use Rattle.wasm_types.specs.declared.instruction.Instr.TheVariants.{Index}
use Rattle.wasm_types.specs.declared.instruction.IndexOp.TheVariants.{GlobalSet}
use Rattle.thread_words.specs.Thread.{Local}
use Rattle.thread_words.proofs.Here.{next_fits}
use Rattle.thread_words.proofs.Variables.{can_set_global, sets_global, top_word}
use Rattle.thread_words.proofs.locals.global_set.Goals as goal

pub drop_top-requires-clause-place : goal.drop_top-requires-clause-place
drop_top-requires-clause-place c = let k = c.requires in next_fits k.0 k.1 (Index GlobalSet c.args.global) k.2.0 (Local k.2.1) c.args.m.now k.2.2

pub returns-clause-steps : goal.returns-clause-steps
returns-clause-steps c = λ m instance s after k.
    sets_global m instance s after c.args.m.now _ c.drop_top.new.m c.args.global k (record { stage = refl; function = refl; low_words = refl; low_labels = refl; callers = refl; starting = refl }) refl refl refl
    (c.write.ensures.items ∙ ap (slice_set c.args.m.now.globals.items c.args.global) (top_word c.args.m.now.words.items c.deref.result.now c.operand-word.result c.deref.ensures.value (can_set_global m instance s (Local after) c.args.m.now c.args.global k).1 c.operand-word.ensures)) c.drop_top.ensures

pub operand-word-requires : goal.operand-word-requires
operand-word-requires c = let k = c.requires in subst (λ y. 0 < length y) (sym c.deref.ensures.value) (can_set_global k.0 k.1 k.2.0 (Local k.2.1) c.args.m.now c.args.global k.2.2).1

pub write-requires : goal.write-requires
write-requires c = let k = c.requires in (can_set_global k.0 k.1 k.2.0 (Local k.2.1) c.args.m.now c.args.global k.2.2).0
