use Rattle.std.proofs.Common.{refl}
use Rattle.wasm_types.specs.declared.instruction.Instr.TheVariants.{Index}
use Rattle.wasm_types.specs.declared.instruction.IndexOp.TheVariants.{LocalTee}
use Rattle.thread_words.specs.Thread.{Local}
use Rattle.thread_words.proofs.Here.{next_fits}
use Rattle.thread_words.proofs.Variables.{can_tee_local, tees_local}
use Rattle.thread_words.proofs.locals.local_tee.Goals as goal

pub advance-requires : goal.advance-requires
advance-requires c = let k = c.requires in next_fits k.0 k.1 (Index LocalTee c.args.local) k.2.0 (Local k.2.1) c.args.m.now k.2.2

pub returns-clause-steps : goal.returns-clause-steps
returns-clause-steps c = λ m instance s after k.
    tees_local m instance s after c.args.m.now _ c.advance.new.m c.args.local k (record { stage = refl; function = refl; low_words = refl; low_labels = refl; callers = refl; starting = refl }) refl c.store.ensures.items refl refl c.advance.ensures

pub store-requires : goal.store-requires
store-requires c = let k = c.requires in (can_tee_local k.0 k.1 k.2.0 (Local k.2.1) c.args.m.now c.args.local k.2.2).0
