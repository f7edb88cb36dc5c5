use Rattle.thread_words.proofs.accesses.memory_access.Goals as goal

pub memory_access_on-requires : goal.memory_access_on-requires
memory_access_on-requires c = (c.args.m.now, c.deref.ensures.value, c.requires)

pub returns : goal.returns
returns c = c.memory_access_on.ensures c.args.m.now c.deref.ensures.value
