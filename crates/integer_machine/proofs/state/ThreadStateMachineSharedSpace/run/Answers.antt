use Rattle.std.proofs.Common.{ap, arith}
use Rattle.rw_objects.specs.Memory.{memory_of}
use Rattle.integer_machine.specs.Alone.{held}
use Rattle.integer_machine.specs.Sound.{ThreadWithRoom, thread_of}
use Rattle.integer_machine.proofs.Alone.{runs_from, on_both}
use Rattle.integer_machine.proofs.state.ThreadStateMachineSharedSpace.run.Goals as goal

pub returns-clause-goes : goal.returns-clause-goes
returns-clause-goes g c =
    runs_from g.L.EntryLog.add c.self.inside.valid.now c.self.inside.instance c.self.inside.stacks c.run_alone-end.new.m (held (memory_of c.args.memory.now) (g.L.EntryLog.seen c.args.log.now))
    (held (memory_of c.run_alone-end.new.memory) (g.L.EntryLog.seen c.run_alone-end.new.log)) c.self.inside.steps c.run_alone-end.result.0.steps c.run_alone-end.result.0.events (thread_of c.args.self.now) (ap thread_of c.self.view_is) c.run_alone-end.ensures.goes

pub returns-clause-comes : goal.returns-clause-comes
returns-clause-comes g c =
    let seen = ap (λ (x : ThreadWithRoom). x.thread.steps) c.self.view_is in
    let count = c.run_alone-end.ensures.goes.2 in
    let limit = c.last_of-last.ensures.limit in
    on_both c.run_alone-end.result.1 (λ comes more. record { step = comes c.run_alone-end.result.0.steps; few = omega (arith, seen, count, limit, more) }) c.run_alone-end.ensures.comes c.run_alone-end.ensures.more
