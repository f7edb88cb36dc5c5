use Rattle.std.proofs.Common.{sym, ◌∙◌, subst, arith}
use Rattle.std.proofs.lemmas.Option.{slice_get_past}
use Rattle.rw_objects.specs.Memory.{memory_of}
use Rattle.event_core.specs.Sound.{IsSound}
use Rattle.event_core.specs.World.{WorldAt, world_of}
use Rattle.event_core.specs.LocalRun.{goes}
use Rattle.event_core.specs.Threads.{threads_of}
use Rattle.event_core.proofs.LocalRuns.{there}
use Rattle.event_core.proofs.ThreadRuns.{thread_run, run_kept}
use Rattle.event_core.proofs.world.World.run.Goals as goal

pub returns-then-at-count-clause-run : goal.returns-then-at-count-clause-run
returns-then-at-count-clause-run g c =
    let w = world_of c.args.self.now in
    let th = there w.threads c.args.thread (let n = c.count.ensures.count in let l = c.if-at-count.true in omega (arith, n, l)) in
    thread_run g.S.ObjectSpace.meaning g.M.Machine.code g.L.EntryLog.add g.met.M.Machine.laws c.args.thread c.run.result.0 w (threads_of g.M.Machine.state c.run.new.threads.items) (memory_of c.run.new.memory) _ _ th.0 th.1 c.run.ensures.goes c.run.ensures.limit

pub invariant_of-self : goal.invariant_of-self
invariant_of-self g c =
    let w = world_of c.args.self.now in
    let th = there w.threads c.args.thread (let n = c.count.ensures.count in let l = c.if-at-count.true in omega (arith, n, l)) in
    let r = thread_run g.S.ObjectSpace.meaning g.M.Machine.code g.L.EntryLog.add g.met.M.Machine.laws c.args.thread c.run.result.0 w (threads_of g.M.Machine.state c.run.new.threads.items) (memory_of c.run.new.memory) _ _ th.0 th.1 c.run.ensures.goes c.run.ensures.limit in
    record {
      sound = subst (λ (x : WorldAt _ _ _). IsSound g.M.Machine.code x.threads x.memory) (sym r.leads)
          (run_kept g.S.ObjectSpace.meaning g.M.Machine.code g.met.S.ObjectSpace.laws g.met.M.Machine.laws w (goes c.args.thread c.run.result.0) r.run c.args.self.now.sound);
    }

pub returns-else-at-count-clause-all : goal.returns-else-at-count-clause-all
returns-else-at-count-clause-all g c = λ less t is.
    let w = world_of c.args.self.now in
    let none = slice_get_past w.threads c.args.thread (let n = c.count.ensures.count in let l = c.if-at-count.false in omega (arith, n, l)) in
    absurd (let e = sym none ∙ is in cc)
