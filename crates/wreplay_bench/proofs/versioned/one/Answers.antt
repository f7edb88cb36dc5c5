use Rattle.rw_objects.specs.Memory.{memory_of}
use Rattle.wreplay_bench.proofs.Counting.{fits, one_more}
use Rattle.wreplay_bench.proofs.versioned.one.Goals as goal

pub act-reply-requires-clause-fits : goal.act-reply-requires-clause-fits
act-reply-requires-clause-fits c = fits c.args.memory.now.space.blocks.limits c.args.op.now c.requires.within

pub returns : goal.returns
returns c = one_more c.args.memory.now.space.blocks.limits c.args.made (memory_of c.args.memory.now) (memory_of c.act-reply.new.self) c.args.op.now c.requires.counted c.act-reply.ensures.memory
