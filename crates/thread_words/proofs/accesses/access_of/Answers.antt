use Rattle.std.proofs.Common.{Ok, sym, subst}
use Rattle.thread_words.specs.Words.{instance_at}
use Rattle.thread_words.specs.Accesses.{takes_of, HasOperands, AsksBy}
use Rattle.thread_words.proofs.Asking.{has_operands, asks}
use Rattle.thread_words.proofs.accesses.access_of.Goals as goal

pub memory_access-requires : goal.memory_access-requires
memory_access-requires c =
    subst (λ i. HasOperands (takes_of i) c.args.m.now) c.in-Memory.is (has_operands (instance_at c.args.instance.now) c.args.instr c.args.m.now c.requires.can c.requires.access)

pub pages_access-requires : goal.pages_access-requires
pages_access-requires c =
    subst (λ i. HasOperands (takes_of i) c.args.m.now) c.in-Pages.is (has_operands (instance_at c.args.instance.now) c.args.instr c.args.m.now c.requires.can c.requires.access)

pub atomic_access-requires : goal.atomic_access-requires
atomic_access-requires c =
    subst (λ i. HasOperands (takes_of i) c.args.m.now) c.in-Atomic.is (has_operands (instance_at c.args.instance.now) c.args.instr c.args.m.now c.requires.can c.requires.access)

pub returns-in-Memory : goal.returns-in-Memory
returns-in-Memory c =
    let instance = instance_at c.args.instance.now in
    asks instance c.args.instr c.memory_access.result c.args.m.now c.requires.access (subst (λ i. AsksBy instance i c.memory_access.result c.args.m.now) (sym c.in-Memory.is) c.memory_access.ensures)

pub returns-in-Pages : goal.returns-in-Pages
returns-in-Pages c =
    let instance = instance_at c.args.instance.now in
    asks instance c.args.instr (Ok c.pages_access.result) c.args.m.now c.requires.access (subst (λ i. AsksBy instance i (Ok c.pages_access.result) c.args.m.now) (sym c.in-Pages.is) (c.pages_access.ensures instance))

pub returns-in-Atomic : goal.returns-in-Atomic
returns-in-Atomic c =
    let instance = instance_at c.args.instance.now in
    asks instance c.args.instr c.atomic_access.result c.args.m.now c.requires.access (subst (λ i. AsksBy instance i c.atomic_access.result c.args.m.now) (sym c.in-Atomic.is) c.atomic_access.ensures)
