use Rattle.std.proofs.Common.{refl}
use Rattle.wasm_types.specs.declared.instruction.Instr.TheVariants.{Index}
use Rattle.wasm_types.specs.declared.instruction.IndexOp.TheVariants.{LocalSet}
use Rattle.thread_words.specs.Thread.{Local}
use Rattle.thread_words.proofs.Here.{next_fits}
use Rattle.thread_words.proofs.Variables.{can_set_local, sets_local}
use Rattle.thread_words.proofs.locals.local_set.Goals as goal

pub drop_top-requires-clause-place : goal.drop_top-requires-clause-place
drop_top-requires-clause-place c = let k = c.requires in next_fits k.0 k.1 (Index LocalSet c.args.local) k.2.0 (Local k.2.1) c.args.m.now k.2.2

pub returns-clause-steps : goal.returns-clause-steps
returns-clause-steps c = λ m instance s after k.
    sets_local m instance s after c.args.m.now _ c.drop_top.new.m c.args.local k (record { stage = refl; function = refl; low_words = refl; low_labels = refl; callers = refl; starting = refl }) refl c.store.ensures.items refl refl c.drop_top.ensures

pub store-requires : goal.store-requires
store-requires c = let k = c.requires in (can_set_local k.0 k.1 k.2.0 (Local k.2.1) c.args.m.now c.args.local k.2.2).0
