use Rattle.std.proofs.Common.{◌<◌, sym, ◌∙◌, arith}
use Rattle.rw_objects.specs.Alone.{alone_with}
use Rattle.rw_objects.specs.Memory.{memory_of}
use Rattle.rw_objects.proofs.Alone.{one_more_gone, local_step, step_with}
use Rattle.rw_objects.proofs.machine.Machine.run.Goals.{in-Local+in-Ok, in-Ask+else-not-takes+in-Ok-access}
use Rattle.rw_objects.proofs.machine.Machine.run.Goals as goal

pub loop-steps-preserved : goal.loop-steps-preserved
loop-steps-preserved g c =
    let m = g.S.ObjectSpace.meaning in
    let code = g.Self.Machine.code in
    let add = g.L.EntryLog.add in
    let here = alone_with (g.Self.Machine.state c.loop-steps.self) (memory_of c.loop-steps.memory) (g.L.EntryLog.seen c.loop-steps.log) c.loop-steps.events in
    let l : code.steps (g.Self.Machine.state c.loop-steps.self) < 1000000000 = let e = c.steps.ensures in let f = c.if-steps-ge-MOST_STEPS.false in omega (arith, e, f) in
    elim c.match-next.branch [
      | in-Local+in-Ok w ↦
          rw w.self-is (rw w.memory-is (rw w.log-is (rw w.events-is (one_more_gone m code add g.met.Self.Machine.laws c.loop-steps.steps _ here _ c.loop-steps.invariant l
          (local_step m code add here _ (sym c.next.ensures ∙ w.in-Local.is) w.in-Ok.ensures.ok)))))
      | in-Ask+else-not-takes+in-Ok-access w ↦
          rw w.self-is (rw w.memory-is (rw w.log-is (rw w.events-is (one_more_gone m code add g.met.Self.Machine.laws c.loop-steps.steps _ here _ c.loop-steps.invariant l
          (step_with m code add here _ _ w.takes.ensures.seen (w.in-Ok-access.ensures.ok c.loop-steps.events))))))
    ]
