use Rattle.rw_objects.specs.Memory.{memory_of}
use Rattle.wreplay_bench.specs.Alone.{alone_with}
use Rattle.wreplay_bench.proofs.Opening.{opens, opens_sound}
use Rattle.wreplay_bench.proofs.alone.Alone.new.Goals as goal

pub returns-clause-opening : goal.returns-clause-opening
returns-clause-opening c =
    opens c.args.valid.now c.module-module.result.now c.args.plan.now c.args.block c.in_ok-thread.thread.thread c.memory_limits-limits.result (memory_of c.in_ok-memory.memory) c.in_ok-thread.ensures c.module-module.ensures.module c.memory_limits-limits.ensures c.in_ok-memory.ensures

pub returns-clause-sound : goal.returns-clause-sound
returns-clause-sound c =
    opens_sound c.args.valid.now c.args.plan.now c.args.block (alone_with c.in_ok-thread.thread.thread (memory_of c.in_ok-memory.memory)) c.power-small.ensures.greatest
    (opens c.args.valid.now c.module-module.result.now c.args.plan.now c.args.block c.in_ok-thread.thread.thread c.memory_limits-limits.result (memory_of c.in_ok-memory.memory) c.in_ok-thread.ensures c.module-module.ensures.module c.memory_limits-limits.ensures c.in_ok-memory.ensures)
