use Rattle.std.proofs.Common.{◌∙◌, ap, subst, rules, Ok, Err}
use Rattle.rw_objects.specs.declared.next.Next.TheVariants as next
use Rattle.thread_words.specs.Thread.{Local, Ask, Ends}
use Rattle.wasm_types.specs.declared.outcome.Outcome.TheVariants.{Trapped}
use Rattle.thread_words.specs.Accesses.{IsAsked}
use Rattle.thread_words.specs.Words.{instance_at}
use Rattle.integer_machine.specs.Rooms.{IsNoAccess}
use Rattle.integer_machine.proofs.Moving.{moving}
use Rattle.integer_machine.proofs.Going.{at_read, reads, no_access_is_local, next_is}
use Rattle.integer_machine.proofs.moves.next_running.Goals as goal

pub instruction-instr-requires : goal.instruction-instr-requires
instruction-instr-requires c = reads c.args.valid.now c.args.instance.now c.args.m.now c.requires.sound.results (moving c.args.valid.now c.args.instance.now c.args.m.now c.requires.sound c.requires.running)

pub returns-then-not-is_access : goal.returns-then-not-is_access
returns-then-not-is_access c =
    let v = moving c.args.valid.now c.args.instance.now c.args.m.now c.requires.sound c.requires.running in
    let at = at_read c.args.valid.now c.args.instance.now c.args.m.now c.requires.sound.results v c.instruction-instr.result.now c.instruction-instr.ensures in
    let n : IsNoAccess c.instruction-instr.result.now = search rules in
    let q = no_access_is_local c.args.valid.now (instance_at c.args.instance.now) c.instruction-instr.result.now v.stack v.next c.args.m.now at n in
    next_is c.args.valid.now c.args.instance.now c.args.m.now c.requires.sound.results v (Local q.0) q.1

pub access_of-requires-clause-can : goal.access_of-requires-clause-can
access_of-requires-clause-can c =
    let v = moving c.args.valid.now c.args.instance.now c.args.m.now c.requires.sound c.requires.running in
    (c.args.valid.now, v.stack, v.next, at_read c.args.valid.now c.args.instance.now c.args.m.now c.requires.sound.results v c.instruction-instr.result.now c.instruction-instr.ensures)

pub returns-in-Ok : goal.returns-in-Ok
returns-in-Ok c =
    let v = moving c.args.valid.now c.args.instance.now c.args.m.now c.requires.sound c.requires.running in
    let at = at_read c.args.valid.now c.args.instance.now c.args.m.now c.requires.sound.results v c.instruction-instr.result.now c.instruction-instr.ensures in
    let a : IsAsked (Ok c.in-Ok.action) v.next = subst (λ y. IsAsked y v.next) c.in-Ok.is (c.access_of.ensures c.args.valid.now v.stack v.next at) in
    ap next.Ask c.operation.ensures ∙ next_is c.args.valid.now c.args.instance.now c.args.m.now c.requires.sound.results v (Ask c.in-Ok.action a.0) a.1

pub returns-in-Err : goal.returns-in-Err
returns-in-Err c =
    let v = moving c.args.valid.now c.args.instance.now c.args.m.now c.requires.sound c.requires.running in
    let at = at_read c.args.valid.now c.args.instance.now c.args.m.now c.requires.sound.results v c.instruction-instr.result.now c.instruction-instr.ensures in
    let a : IsAsked (Err c.in-Err.field-0) v.next = subst (λ y. IsAsked y v.next) c.in-Err.is (c.access_of.ensures c.args.valid.now v.stack v.next at) in
    next_is c.args.valid.now c.args.instance.now c.args.m.now c.requires.sound.results v (Local (Ends (Trapped c.in-Err.field-0))) a
