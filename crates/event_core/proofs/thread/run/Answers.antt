use Rattle.std.proofs.Common.{◌≤◌, refl, arith}
use Rattle.std.proofs.lemmas.Result.{on_ok_weaker, on_err_weaker}
use Rattle.rw_objects.specs.Alone.{Comes, IsOver}
use Rattle.rw_objects.specs.Memory.{memory_of}
use Rattle.rw_objects.proofs.Alone.{goes_events, goes_steps}
use Rattle.event_core.specs.Threads.{thread_of, threads_of}
use Rattle.event_core.proofs.Threads.{seen_at}
use Rattle.event_core.proofs.ThreadRuns.{sound_alone, ran_at, thread_set}
use Rattle.event_core.proofs.thread.run.Goals as goal

pub run-end-requires : goal.run-end-requires
run-end-requires g c =
    sound_alone g.S.ObjectSpace.meaning g.M.Machine.code (threads_of g.M.Machine.state c.args.threads.now.items) (memory_of c.args.memory.now) c.args.at _
    (seen_at g.M.Machine.state c.args.threads.now.items c.args.at c.index_mut-thread.result.now c.requires.within c.index_mut-thread.ensures.value) c.requires.sound

pub overflow_add-thread : goal.overflow_add-thread
overflow_add-thread g c =
    let is = seen_at g.M.Machine.state c.args.threads.now.items c.args.at c.index_mut-thread.result.now c.requires.within c.index_mut-thread.ensures.value in
    let h = c.requires.sound.each c.args.at (thread_of g.M.Machine.state c.index_mut-thread.result.now) is in
    let few = h.places in
    let most = h.steps in
    let events = goes_events g.S.ObjectSpace.meaning g.M.Machine.code g.L.EntryLog.add g.met.M.Machine.laws _ _ _ c.run-end.ensures.goes in
    let counted = goes_steps g.S.ObjectSpace.meaning g.M.Machine.code g.L.EntryLog.add g.met.M.Machine.laws _ _ _ c.run-end.ensures.goes in
    let limit = c.run-end.ensures.limit most in
    omega (arith, few, most, events, counted, limit)

pub returns-clause-goes : goal.returns-clause-goes
returns-clause-goes g c =
    ran_at g.S.ObjectSpace.meaning g.M.Machine.code g.L.EntryLog.add g.M.Machine.state c.args.threads.now.items c.args.at c.run-end.result.0.steps c.run-end.result.0.events c.index_mut-thread.result.now _ _ _ _ _
    c.requires.within c.index_mut-thread.ensures.value refl c.run-end.ensures.goes

pub returns-clause-limit : goal.returns-clause-limit
returns-clause-limit g c =
    let is = seen_at g.M.Machine.state c.args.threads.now.items c.args.at c.index_mut-thread.result.now c.requires.within c.index_mut-thread.ensures.value in
    let h = c.requires.sound.each c.args.at (thread_of g.M.Machine.state c.index_mut-thread.result.now) is in
    thread_set g.M.Machine.state (λ s. g.M.Machine.code.steps s ≤ 1000000000) c.args.threads.now.items c.args.at _ c.requires.within (c.run-end.ensures.limit h.steps)

pub returns-clause-all : goal.returns-clause-all
returns-clause-all g c =
    on_ok_weaker c.run-end.result.1
    (λ h less. thread_set g.M.Machine.state (λ s. IsOver g.S.ObjectSpace.meaning g.M.Machine.code g.L.EntryLog.add s (memory_of c.run-end.new.memory) (g.L.EntryLog.seen c.run-end.new.log)) c.args.threads.now.items c.args.at _ c.requires.within (h less)) c.run-end.ensures.all

pub returns-clause-comes : goal.returns-clause-comes
returns-clause-comes g c =
    on_err_weaker c.run-end.result.1
    (λ h. thread_set g.M.Machine.state (λ s. Comes g.S.ObjectSpace.meaning g.M.Machine.code g.L.EntryLog.add s (memory_of c.run-end.new.memory) (g.L.EntryLog.seen c.run-end.new.log)) c.args.threads.now.items c.args.at _ c.requires.within h) c.run-end.ensures.comes
